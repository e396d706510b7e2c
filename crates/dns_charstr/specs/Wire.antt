-- The wire format of a character string.
use Rattle.std.specs.Prelude.{◌≡◌, ℕ, ◌+◌, ◌<◌, ◌≤◌, ◌⊎◌, List, [], ◌∷◌, ◌++◌, length}
use Rattle.dns_octets.specs.Room.{Room}

-- one octet for the length, then the octets
abbrev pub wire_of : List ℕ → List ℕ
wire_of octets = length octets ∷ octets

-- the octets begin with no wire format
abbrev pub BeginsNoWireForm : List ℕ → Type 0
BeginsNoWireForm front = (octets more : List ℕ) → front ≡ wire_of octets ++ more → ⊥

-- the octets after a failed append: the old ones, if the length octet exceeds the guaranteed capacity; or these and the length octet, if the whole does
abbrev pub IsAfterFailedAppend : Room → List ℕ → List ℕ → List ℕ → Type 0
IsAfterFailedAppend room octets old new =
    ((new ≡ old) × (room.fits ≤ length old)) ⊎ ((new ≡ old ++ length octets ∷ []) × (length new ≤ room.capacity) × (room.fits < length old + length (wire_of octets)))

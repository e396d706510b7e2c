-- How a list of octets changes if octets are appended to it.
use Rattle.std.specs.Prelude.{ℕ, ◌≡◌, ◌+◌, ◌<◌, ◌++◌, List, Result, OnOk, length}
use Rattle.dns_octets.specs.Room.{Room}

-- the old octets, followed by any others
abbrev pub Extends : List ℕ → List ℕ → Type 0
Extends old new = (more : List ℕ) × (new ≡ old ++ more)

-- the old octets, followed by octets that satisfy a predicate
abbrev pub Gains : (List ℕ → Type 0) → List ℕ → List ℕ → Type 0
Gains Is old new = (octets : List ℕ) × Is octets × (new ≡ old ++ octets)

-- all octets that satisfy a predicate exceed the guaranteed capacity
abbrev pub LacksRoom : Room → (List ℕ → Type 0) → List ℕ → Type 0
LacksRoom room Is old = (octets : List ℕ) → Is octets → room.fits < length old + length octets

-- some octets satisfy a predicate, and exceed the guaranteed capacity
abbrev pub ExceedsRoom : Room → (List ℕ → Type 0) → List ℕ → Type 0
ExceedsRoom room Is old = (octets : List ℕ) × Is octets × (room.fits < length old + length octets)

-- The state of a builder of a name.
use Rattle.std.specs.Prelude.{◌≡◌, ℕ, zero, suc, slice_set, ◌-◌, ◌+◌, ◌<◌, ◌≤◌, List, [], ◌∷◌, ◌++◌, length, Result, Ok, Err}
use Rattle.dns_octets.specs.Room.{Room}
use Rattle.dns_wire.specs.Wire.{wire_length}
use Rattle.dns_wire.specs.declared.error.PushError.{PushError}
use Rattle.dns_wire.specs.declared.error.PushError.TheVariants.{LongLabel, LongName, ShortBuf}
use Rattle.dns_wire.specs.Limits.{max_label, max_relative}

-- the finished labels, and the octets of the open one (empty if none is open)
pub record Naming : Type 0 where
  pub labels : List (List ℕ)
  pub current : List ℕ

-- the open label, closed
abbrev pub closed : List ℕ → List (List ℕ)
closed [] = []
closed (x ∷ xs) = (x ∷ xs) ∷ []

-- all the labels, once the open one is closed
abbrev pub all_labels : Naming → List (List ℕ)
all_labels b = b.labels ++ closed b.current

-- before any label
abbrev pub no_labels : Naming
no_labels = record { labels = []; current = [] }

-- once the open label is closed
abbrev pub ended : Naming → Naming
ended b = record { labels = all_labels b; current = [] }

-- with one more octet in the open label
abbrev pub with_octet : Naming → ℕ → Naming
with_octet b octet = record { labels = b.labels; current = b.current ++ octet ∷ [] }

-- with the open label closed and a whole label after it
abbrev pub with_label : Naming → List ℕ → Naming
with_label b label = record { labels = all_labels b ++ label ∷ []; current = [] }

-- the result of adding to a name without its root, which would then have `all` octets and the extended label `label`,
-- with a builder of that room
abbrev pub AnswersGrowth : ℕ → ℕ → Room → Result (Unit {0}) PushError → Type 0
AnswersGrowth all label room (Ok _) = (all ≤ max_relative) × (label ≤ max_label) × (all ≤ room.capacity)
AnswersGrowth all label room (Err LongName) = max_relative < all
AnswersGrowth all label room (Err LongLabel) = (all ≤ max_relative) × (max_label < label)
AnswersGrowth all label room (Err ShortBuf) = (all ≤ max_relative) × (label ≤ max_label) × (room.fits < all)

-- the result of appending the root after labels
abbrev pub AnswersRoot : List (List ℕ) → Room → Result (List (List ℕ)) PushError → Type 0
AnswersRoot labels room (Ok name) = (name ≡ labels ++ [] ∷ []) × (wire_length labels + 1 ≤ room.capacity)
AnswersRoot labels room (Err LongName) = ⊥
AnswersRoot labels room (Err LongLabel) = ⊥
AnswersRoot labels room (Err ShortBuf) = room.fits < wire_length labels + 1

-- the octets needed for one more octet: a new label also needs its length octet
abbrev pub needed_for_octet : ℕ → ℕ
needed_for_octet zero = 2
needed_for_octet (suc n) = 1

-- the octets whose last label has one octet more; for a count of 0, with a new label of one octet
abbrev pub grown : List ℕ → ℕ → ℕ → List ℕ
grown octets zero octet = octets ++ 1 ∷ octet ∷ []
grown octets (suc n) octet = slice_set (octets ++ octet ∷ []) (length octets - suc n - 1) (suc n + 1)

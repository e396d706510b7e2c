-- Laws of the orders of names and octets, and of order keys.
use Rattle.std.specs.Prelude.{◌≡◌, ◌↔◌, ◌≤◌, ◌+◌, ◌*◌, ℕ, List, ◌∷◌, ◌++◌, length}
use Rattle.std.specs.declared.cmp.Ordering.TheVariants.{Less, Equal}
use Rattle.dns_octets.specs.Lowered.{lowered}
use Rattle.dns_wire.specs.Order.{lowered_wire}
use Rattle.dns_wire.specs.Wire.{wire, IsName}
use Rattle.zone_record.specs.Keys.{IsAtOrBelow, label_key, order_key}
use Rattle.zone_record.specs.Names.{octet_order, name_order}

-- lowering all octets of a name lowers its labels
abbrev pub LowersByLabels : List (List ℕ) → Type 0
LowersByLabels labels = IsName labels → lowered (wire labels) ≡ lowered_wire labels

-- names are equal in canonical order exactly if their canonical forms are the same
abbrev pub IsTiedByLowering : List (List ℕ) → List (List ℕ) → Type 0
IsTiedByLowering a b = IsName a → IsName b → (name_order a b ≡ Equal) ↔ (lowered (wire a) ≡ lowered (wire b))

-- a name is before one with one more label
abbrev pub PrecedesNamesBelow : List (List ℕ) → List ℕ → Type 0
PrecedesNamesBelow name label = name_order name (label ∷ name) ≡ Less

-- keys compare octet by octet as their names do, and are the same if the names are equal
abbrev pub IsOrderedByKey : List (List ℕ) → List (List ℕ) → Type 0
IsOrderedByKey a b = name_order a b ≡ octet_order (order_key a) (order_key b)

abbrev pub IsTiedByKey : List (List ℕ) → List (List ℕ) → Type 0
IsTiedByKey a b = (order_key a ≡ order_key b) ↔ (name_order a b ≡ Equal)

-- the key of a name begins with that of another exactly if the name is the other or below it
abbrev pub IsWithinByKey : List (List ℕ) → List (List ℕ) → Type 0
IsWithinByKey name top = ((rest : List ℕ) × (order_key name ≡ order_key top ++ rest)) ↔ IsAtOrBelow name top

-- the key of a name below another is the other's key and then the label's
abbrev pub ExtendsKeyByLabel : List ℕ → List (List ℕ) → Type 0
ExtendsKeyByLabel label name = order_key (label ∷ name) ≡ order_key name ++ label_key (lowered label)

-- the length of a key is at most twice that of the name in wire format, less one for each label
abbrev pub HasShortKey : List (List ℕ) → Type 0
HasShortKey labels = length (order_key labels) + length labels ≤ 2 * length (wire labels)

-- octets are before longer ones that begin with them
abbrev pub PrecedesLongerOctets : List ℕ → ℕ → List ℕ → Type 0
PrecedesLongerOctets octets octet more = octet_order octets (octets ++ octet ∷ more) ≡ Less

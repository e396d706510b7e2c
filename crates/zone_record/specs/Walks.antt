-- The preconditions and results of the loops over the labels of a name. The definitions follow the code.
use Rattle.std.specs.Prelude.{◌≡◌, ℕ, ◌≤◌, List, ◌++◌, length, drop}
use Rattle.std.specs.Ordering.{ordering_then}
use Rattle.std.specs.declared.cmp.Ordering.{Ordering}
use Rattle.dns_wire.specs.Wire.{wire, wire_label}
use Rattle.zone_record.specs.Names.{name_order}

-- the octets begin with a label
abbrev pub BeginsWithLabel : List ℕ → Type 0
BeginsWithLabel octets = (label rest : List ℕ) × (octets ≡ wire_label label ++ rest)

-- the octets are those of at least `count` labels
abbrev pub HasLabels : ℕ → List ℕ → Type 0
HasLabels count octets = (labels : List (List ℕ)) × (octets ≡ wire labels) × (count ≤ length labels)

-- the octets have this number of labels
abbrev pub IsLabelCount : List ℕ → ℕ → Type 0
IsLabelCount octets count = (labels : List (List ℕ)) → octets ≡ wire labels → count ≡ length labels

-- the octets of the labels after the first `count`
abbrev pub AreAfterLabels : ℕ → List ℕ → List ℕ → Type 0
AreAfterLabels count octets rest = (labels : List (List ℕ)) → octets ≡ wire labels → rest ≡ wire (drop count labels)

-- both are octets of the same number of labels
abbrev pub AreLevel : List ℕ → List ℕ → Type 0
AreLevel left right = (a b : List (List ℕ)) × (left ≡ wire a) × (right ≡ wire b) × (length a ≡ length b)

-- their order, or another one if they are equal
abbrev pub IsLevelOrder : List ℕ → List ℕ → Ordering → Ordering → Type 0
IsLevelOrder left right otherwise order = (a b : List (List ℕ)) → left ≡ wire a → right ≡ wire b → order ≡ ordering_then (name_order a b) otherwise

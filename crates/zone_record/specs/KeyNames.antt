-- The names that have order keys.
use Rattle.std.specs.Prelude.{ℕ, zero, suc, ◌≡◌, ◌-◌, ◌≤◌, List, [], ◌∷◌, ◌++◌, All, length, reverse}
use Rattle.std.specs.List.{flat_map}
use Rattle.dns_wire.specs.Limits.{max_label}
use Rattle.zone_record.specs.Keys.{label_key}

-- the first label of a key: the octets before the first 0, of which a 1 and the octet after it are one octet
abbrev pub first_in_key : List ℕ → List ℕ
first_in_key [] = []
first_in_key (zero ∷ os) = []
first_in_key (suc zero ∷ []) = 1 ∷ []
first_in_key (suc zero ∷ o ∷ os) = (o - 1) ∷ first_in_key os
first_in_key (suc (suc n) ∷ os) = suc (suc n) ∷ first_in_key os

-- the octets after the first 0
abbrev pub after_in_key : List ℕ → List ℕ
after_in_key [] = []
after_in_key (zero ∷ os) = os
after_in_key (suc zero ∷ []) = []
after_in_key (suc zero ∷ o ∷ os) = after_in_key os
after_in_key (suc (suc n) ∷ os) = after_in_key os

-- the labels of a key, each up to a 0, after the octets of the first one that were read before
abbrev pub labels_in_key : List ℕ → List ℕ → List (List ℕ)
labels_in_key label [] = []
labels_in_key label (zero ∷ os) = label ∷ labels_in_key [] os
labels_in_key label (suc zero ∷ []) = []
labels_in_key label (suc zero ∷ o ∷ os) = labels_in_key (label ++ (o - 1) ∷ []) os
labels_in_key label (suc (suc n) ∷ os) = labels_in_key (label ++ suc (suc n) ∷ []) os

-- the labels of the name with a key, in lower case
abbrev pub key_name : List ℕ → List (List ℕ)
key_name key = reverse (labels_in_key [] key)

-- octets are the key of labels of at most 63 octets
abbrev pub AreKeyLabels : List ℕ → Type 0
AreKeyLabels key = (labels : List (List ℕ)) × (key ≡ flat_map label_key labels) × All (λ label. length label ≤ max_label) labels

-- Relations between names: parents, ancestors, and names below (RFC 1034 section 3.1).
use Rattle.std.specs.Prelude.{ℕ, nat_eq, ◌||◌, Bool, false, Option, Some, None, List, [], ◌∷◌}
use Rattle.std.specs.List.{find, list_any}
use Rattle.std.specs.Cmp.Lexicographic.{pointwise}
use Rattle.dns_wire.specs.Order.{same_name}

-- the parent of a name, without its first label; the root has no parent
abbrev pub parent_of : List (List ℕ) → Option (List (List ℕ))
parent_of [] = None
parent_of (label ∷ []) = None
parent_of (label ∷ next ∷ others) = Some (next ∷ others)

-- the ancestors of a name: its parent, and so on up to the root
abbrev pub names_above : List (List ℕ) → List (List (List ℕ))
names_above [] = []
names_above (label ∷ []) = []
names_above (label ∷ next ∷ others) = (next ∷ others) ∷ names_above (next ∷ others)

-- the closest that passes a test, of a name and its ancestors
abbrev pub closest_from : (List (List ℕ) → Bool) → List (List ℕ) → Option (List (List ℕ))
closest_from test name = find test (name ∷ names_above name)

-- a name is below another if the other is one of its ancestors
abbrev pub is_below : List (List ℕ) → List (List ℕ) → Bool
is_below name top = list_any (λ above. same_name above top) (names_above name)

-- a name is another, or below it
abbrev pub is_within : List (List ℕ) → List (List ℕ) → Bool
is_within name top = same_name name top || is_below name top

-- the first label is an asterisk (RFC 4592 section 2.1.1)
abbrev pub is_wildcard : List (List ℕ) → Bool
is_wildcard [] = false
is_wildcard (label ∷ labels) = pointwise nat_eq label (42 ∷ [])

-- the first label of a name; the root's is empty
abbrev pub first_label_of : List (List ℕ) → List ℕ
first_label_of [] = []
first_label_of (label ∷ labels) = label

-- How labels and names are printed.
use Rattle.std.specs.Prelude.{ℕ, Bool, ◌==◌, ◌||◌, List, [], ◌∷◌, map}
use Rattle.std.specs.List.{join_with_byte}
use Rattle.dns_symbol.specs.Characters.{space, dot, backslash}
use Rattle.dns_symbol.specs.Printed.{text_of}
use Rattle.dns_wire.specs.Building.{closed}

-- a label escapes the space, the dot and the backslash simply
abbrev pub is_label_escape : ℕ → Bool
is_label_escape o = o == space || o == dot || o == backslash

-- the characters of a label
abbrev pub label_text : List ℕ → List ℕ
label_text = text_of is_label_escape

-- labels joined by dots, where `text` prints a label
abbrev pub joined_by : (List ℕ → List ℕ) → List (List ℕ) → List ℕ
joined_by text labels = join_with_byte dot (map text labels)

abbrev pub joined_text : List (List ℕ) → List ℕ
joined_text = joined_by label_text

-- the labels without a root at the end
abbrev pub without_root : List (List ℕ) → List (List ℕ)
without_root [] = []
without_root (label ∷ []) = closed label
without_root (label ∷ next ∷ more) = label ∷ without_root (next ∷ more)

-- a name with a final dot if it ends in the root, whose own text is empty; the root alone is one dot
abbrev pub dotted_by : (List ℕ → List ℕ) → List (List ℕ) → List ℕ
dotted_by text ([] ∷ []) = dot ∷ []
dotted_by text labels = joined_by text labels

abbrev pub dotted_text : List (List ℕ) → List ℕ
dotted_text = dotted_by label_text

-- a name without a dot at its end, except the root alone
abbrev pub undotted_by : (List ℕ → List ℕ) → List (List ℕ) → List ℕ
undotted_by text ([] ∷ []) = dot ∷ []
undotted_by text labels = joined_by text (without_root labels)

abbrev pub undotted_text : List (List ℕ) → List ℕ
undotted_text = undotted_by label_text

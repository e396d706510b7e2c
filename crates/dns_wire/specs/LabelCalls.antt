-- Labels removed from the beginning and the end of a list, as iterators over labels do.
use Rattle.std.specs.Prelude.{ℕ, List, [], ◌∷◌, ◌++◌, Option, Some, None}
use Rattle.std.specs.Iterator.{YieldsFirstBy, YieldsLastBy}
use Rattle.dns_wire.specs.Label.{label_octets}
use Rattle.dns_wire.specs.declared.label.Label.{Label}

-- a call of `next`: it yields the first label and keeps the others, or yields none
abbrev pub YieldsFirstLabel : List (List ℕ) → Option Label → List (List ℕ) → Type 0
YieldsFirstLabel = YieldsFirstBy label_octets (λ labels. labels)

-- what `next_back` does, with the last label
abbrev pub YieldsLastLabel : List (List ℕ) → Option Label → List (List ℕ) → Type 0
YieldsLastLabel = YieldsLastBy label_octets (λ labels. labels)

-- a call of `next` or of `next_back`, and its result
pub data LabelCall : Type 0 where
  from_front : Option Label → LabelCall
  from_back : Option Label → LabelCall

-- the label that was yielded, if one was
abbrev pub yielded_label : Option Label → List (List ℕ)
yielded_label None = []
yielded_label (Some label) = label_octets label ∷ []

-- the labels yielded from the front, in order
abbrev pub yielded_first : List LabelCall → List (List ℕ)
yielded_first [] = []
yielded_first (from_front label ∷ takes) = yielded_label label ++ yielded_first takes
yielded_first (from_back label ∷ takes) = yielded_first takes

-- the labels yielded from the back, in order: the one yielded first is last
abbrev pub backs : List LabelCall → List (List ℕ)
backs [] = []
backs (from_front label ∷ takes) = backs takes
backs (from_back label ∷ takes) = backs takes ++ yielded_label label

-- the labels before a call, and those that remain after it
abbrev pub YieldsLabel : List (List ℕ) → LabelCall → List (List ℕ) → Type 0
YieldsLabel before (from_front label) left = YieldsFirstLabel before label left
YieldsLabel before (from_back label) left = YieldsLastLabel before label left

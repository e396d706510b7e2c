-- Rows of a text, and when the text is whole.
use Rattle.std.specs.Prelude.{ℕ, ◌==◌, ◌≡◌, ◌++◌, Bool, false, not, List, [], ◌∷◌}
use Rattle.std.specs.List.{filter}
use Rattle.std.specs.Str.Lines.{lines}

-- a line is a row: it is not empty, and doesn't begin with `#`
abbrev pub is_row : List ℕ → Bool
is_row [] = false
is_row (c ∷ _) = not (c == 35)

-- the rows of a text, in their order
abbrev pub rows : List ℕ → List (List ℕ)
rows text = filter is_row (lines text)

-- the line `# end`, after another
abbrev pub end_mark : List ℕ
end_mark = 10 ∷ 35 ∷ 32 ∷ 101 ∷ 110 ∷ 100 ∷ 10 ∷ []

-- a text is whole: it ends with that line, which doesn't occur before
abbrev pub IsWhole : List ℕ → Type 0
IsWhole text = ((front : List ℕ) × (text ≡ front ++ end_mark)) × ((before after : List ℕ) → text ≡ before ++ (end_mark ++ after) → after ≡ [])

-- Lines and columns.
use Rattle.std.specs.Prelude.{◌≡◌, ℕ, ◌+◌, ◌==◌, Bool, true, not, List, [], ◌∷◌, ◌++◌, length, encode_utf8_all}
use Rattle.std.specs.List.{flat_map, list_all}
use Rattle.dns_symbol.specs.Characters.{line_feed}

abbrev pub no_feed : List ℕ → Bool
no_feed l = list_all (λ c. not (c == line_feed)) l

-- the text before has `line - 1` lines, each with its LF, and `column - 1` characters of the next
pub record IsPosition (before : List ℕ) (line column : ℕ) : Type 0 where
  pub lines : List (List ℕ)
  pub last : List ℕ
  pub is : before ≡ flat_map (λ l. l ++ line_feed ∷ []) lines ++ last
  pub fed : list_all no_feed lines ≡ true
  pub unfed : no_feed last ≡ true
  pub counted : line ≡ length lines + 1
  pub along : column ≡ length last + 1

-- the position after the characters of a text
abbrev pub IsTextPosition : List ℕ → ℕ → ℕ → Type 0
IsTextPosition before line column = (cs : List ℕ) × (encode_utf8_all cs ≡ before) × IsPosition cs line column

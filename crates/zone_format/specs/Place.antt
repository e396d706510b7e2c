-- Lines and columns of octets.
use Rattle.std.specs.Prelude.{◌≡◌, ℕ, ◌+◌, ◌≤◌, ◌==◌, ◌||◌, Bool, not, nat_lt, nat_le, List, reverse, take, length, ◌++◌}
use Rattle.std.specs.List.{count_by, take_while}
use Rattle.dns_symbol.specs.Characters.{line_feed}
use Rattle.dns_lexer.specs.declared.position.Position.{Position}
use Rattle.zone_format.specs.declared.place.LocatedOffset.{LocatedOffset}

-- every octet except those that continue a character of UTF-8
abbrev pub begins_character : ℕ → Bool
begins_character c = nat_lt c 128 || nat_le 192 c

-- the number of line feeds
abbrev pub feeds : List ℕ → ℕ
feeds octets = count_by (λ c. c == line_feed) octets

-- the line that comes last, last octet first
abbrev pub last_line : List ℕ → List ℕ
last_line octets = take_while (λ c. not (c == line_feed)) (reverse octets)

-- the number of its characters, plus one
abbrev pub column_of : List ℕ → ℕ
column_of octets = count_by begins_character (last_line octets) + 1

-- the position after octets that follow a number of lines; line and column are counted from 1
abbrev pub IsAt : ℕ → List ℕ → Position → Type 0
IsAt lines_before octets p = (p.line ≡ lines_before + feeds octets + 1) × (p.column ≡ column_of octets)

-- an offset among octets that follow a number of lines has its position
pub record IsPositionAt (octets : List ℕ) (lines_before : ℕ) (p : LocatedOffset) : Type 0 where
  pub within : p.at ≤ length octets
  pub is : IsAt lines_before (take p.at octets) p.position
  pub narrow : p.position.column ≤ p.at + 1

-- octets move a column: it is that of the text before them, and then that of the text with them
abbrev pub MovesColumn : ℕ → List ℕ → ℕ → Type 0
MovesColumn column octets after = (before : List ℕ) → column ≡ column_of before → after ≡ column_of (before ++ octets)

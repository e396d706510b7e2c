-- The line of a finding, with a caret under its column.
use Rattle.std.specs.Prelude.{◌≡◌, ℕ, ◌+◌, ◌-◌, ◌<◌, ◌≤◌, ◌⊎◌, ◌↔◌, IsTrue, min, max, Bool, true, List, ◌++◌, length, take, drop, slice_index, replicate, codes}
use Rattle.dns_symbol.specs.Characters.{space, tilde}
use Rattle.finding_formats.specs.Lines.{green, style_if, unstyled}
use Rattle.dns_lexer.specs.Pieces.{between}
use Rattle.zone_format.specs.Place.{begins_character}
use Rattle.zone_format.specs.Columns.{width_of}
use Rattle.finding_formats.specs.Shown.{IsShowable, shown_text}

-- the character at this offset comes after this number of characters; or there are fewer, and the offset is the end
abbrev pub HasPlace : (line : List ℕ) → (count at : ℕ) → Type 0
HasPlace line count at = ((at < length line) × (width_of (take at line) ≡ count) × (begins_character (slice_index line at) ≡ true)) ⊎ ((at ≡ length line) × (width_of line ≤ count))

-- the number of characters that are omitted at the start of a line of more than 200 characters: all but 100 before a column, but so that 200 remain
abbrev pub window_first : (before total : ℕ) → ℕ
window_first before total = min (before - 100) (total - 200)

-- the number of characters that are marked: those that are wanted, as far as they are shown, but at least one
abbrev pub mark_width : (wanted before shown_text : ℕ) → ℕ
mark_width wanted before shown = max (min wanted (shown - before)) 1

-- blanks, a caret, and tildes up to a width
abbrev pub caret_line : (is_coloured : Bool) → (before width : ℕ) → List ℕ
caret_line is_coloured before width = replicate before space ++ style_if is_coloured green ++ codes "^" ++ replicate (width - 1) tilde ++ style_if is_coloured unstyled ++ codes "\n"

-- the number of characters of a line before a column
abbrev pub characters_before : (line : List ℕ) → (column : ℕ) → ℕ
characters_before line column = min (column - 1) (width_of line)

-- the number of characters that are omitted before the shown part of a line
abbrev pub first_shown : (line : List ℕ) → (column : ℕ) → ℕ
first_shown line column = window_first (characters_before line column) (width_of line)

-- 200 characters of the line are shown, or all from the first shown one on, and a caret under that of the column
pub record HasExcerpt (is_coloured : Bool) (line : List ℕ) (column end_column : ℕ) (old new : List ℕ) : Type 0 where
  pub start : ℕ
  pub size : ℕ
  pub keeps_high : Bool
  pub starts : HasPlace line (first_shown line column) start
  pub ends : HasPlace (drop start line) 200 size
  pub kept : IsTrue keeps_high ↔ IsShowable (take size (drop start line))
  pub is : let before = characters_before line column - first_shown line column in let window = take size (drop start line) in
      new ≡ old ++ shown_text keeps_high window ++ codes "\n" ++ caret_line is_coloured before (mark_width (end_column - column) before (width_of window))

-- what an excerpt under an offset may need of a line: 800 octets before the offset, and 800 from it on
abbrev pub near_part : (line : List ℕ) → (at : ℕ) → List ℕ
near_part line at = between line (at - 800) (at + min (length line - at) 800)

-- the column of the offset in that part
abbrev pub near_column : (line : List ℕ) → (at : ℕ) → ℕ
near_column line at = width_of (between line (at - 800) at) + 1

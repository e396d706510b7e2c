-- The form of a zone file: each line separately.
use Rattle.std.specs.Prelude.{ℕ, ◌+◌, ◌-◌, Bool, true, false, if◌then◌else◌, ◌==◌, List, [], ◌∷◌, ◌++◌, replicate}
use Rattle.dns_symbol.specs.Characters.{line_feed, space as blank, open_parenthesis, close_parenthesis}
use Rattle.zone_format.specs.declared.columns.Turn.{Turn}
use Rattle.zone_format.specs.declared.columns.Turn.TheVariants.{Edge, Led, Inside, Rest}
use Rattle.zone_format.specs.declared.line_state.Above.{Above}
use Rattle.zone_format.specs.declared.line_state.Above.TheVariants.{Nothing, Line, Gap}
use Rattle.zone_format.specs.Columns.{width_of, token_column, after_token, parenthesis_column, note_column}
use Rattle.zone_format.specs.Marks.{Mark, Token, Note, Open, Close, Feed, Lead}

-- the state before a line: the number of open parentheses, and the column of the comment of the line directly above, or 0
pub record Before : Type 0 where
  pub depth : ℕ
  pub noted : ℕ

-- an item, as it is spelled, at a column
pub record Placed : Type 0 where
  pub column : ℕ
  pub spelled : List ℕ
  pub is_note : Bool

-- the number of characters of a line up to the item's end
abbrev pub end_of : Placed → ℕ
end_of p = (p.column - 1) + width_of p.spelled

abbrev pub placed : ℕ → List ℕ → Bool → Placed
placed c t n = record { column = c; spelled = t; is_note = n }

-- after a blank that the entry begins with
abbrev pub led_turn : Turn → Turn
led_turn Edge = Led
led_turn t = t

-- each item of a line at its column, after e characters, below a comment at a column
abbrev pub places : ℕ → Turn → ℕ → List Mark → List Placed
places noted turn e [] = []
places noted turn e (Token glued t ∷ ms) = placed (token_column turn e glued t) t false ∷ places noted (after_token turn e glued t) ((token_column turn e glued t - 1) + width_of t) ms
places noted turn e (Note t ∷ ms) = placed (note_column noted turn e t) t true ∷ places noted Rest ((note_column noted turn e t - 1) + width_of t) ms
places noted turn e (Open ∷ ms) = placed (parenthesis_column turn e) (open_parenthesis ∷ []) false ∷ places noted Rest (parenthesis_column turn e) ms
places noted turn e (Close ∷ ms) = placed (parenthesis_column turn e) (close_parenthesis ∷ []) false ∷ places noted Rest (parenthesis_column turn e) ms
places noted turn e (Feed ∷ ms) = places noted turn e ms
places noted turn e (Lead ∷ ms) = places noted (led_turn turn) e ms

-- a line begins an entry, or continues one inside parentheses
abbrev pub start : ℕ → Turn
start depth = if depth == 0 then Edge else Inside

-- each at its column, with spaces before it
abbrev pub written : ℕ → List Placed → List ℕ
written e [] = []
written e (p ∷ ps) = replicate (p.column - (e + 1)) blank ++ (p.spelled ++ written (end_of p) ps)

-- the form of one line
abbrev pub line_form : Before → List Mark → List ℕ
line_form b line = written 0 (places b.noted (start b.depth) 0 line)

-- the column of the last comment, or the given one
abbrev pub noted_in : ℕ → List Placed → ℕ
noted_in c [] = c
noted_in c (p ∷ ps) = noted_in (if p.is_note then p.column else c) ps

-- the number of open parentheses after a line
abbrev pub depth_after : ℕ → List Mark → ℕ
depth_after d [] = d
depth_after d (Open ∷ ms) = depth_after (d + 1) ms
depth_after d (Close ∷ ms) = depth_after (d - 1) ms
depth_after d (_ ∷ ms) = depth_after d ms

-- the state before the line below
abbrev pub below : Before → List Mark → Before
below b line = record { depth = depth_after b.depth line; noted = noted_in 0 (places b.noted (start b.depth) 0 line) }

-- a line of only blanks
abbrev pub is_blank_line : List Mark → Bool
is_blank_line [] = true
is_blank_line (Lead ∷ ms) = is_blank_line ms
is_blank_line _ = false

-- the lines of marks
abbrev pub with_mark : Mark → List (List Mark) → List (List Mark)
with_mark m [] = (m ∷ []) ∷ []
with_mark m (l ∷ ls) = (m ∷ l) ∷ ls

abbrev pub lines : List Mark → List (List Mark)
lines [] = [] ∷ []
lines (Feed ∷ ms) = [] ∷ lines ms
lines (m ∷ ms) = with_mark m (lines ms)

-- below a blank line: nothing yet, or a gap
abbrev pub blank_below : Above → Above
blank_below Nothing = Nothing
blank_below _ = Gap

abbrev pub gap : {A : Type 0} → A → Above → List A
gap x Gap = x ∷ []
gap x _ = []

-- the forms of lines, each with a line feed, and one blank line if there were any between two
abbrev pub forms : Above → Before → List (List Mark) → List ℕ
forms above b [] = []
forms above b (l ∷ ls) = if is_blank_line l then forms (blank_below above) (below b l) ls else gap line_feed above ++ (line_form b l ++ (line_feed ∷ forms Line (below b l) ls))

abbrev pub first : Before
first = record { depth = 0; noted = 0 }

-- the form of marks
abbrev pub form : List Mark → List ℕ
form ms = forms Nothing first (lines ms)

-- Marks written one after another.
use Rattle.std.specs.Prelude.{⊤, ◌≡◌, ◌<◌, ◌≤◌, ℕ, ◌+◌, ◌-◌, Bool, true, false, ◌&&◌, ◌==◌, not, if◌then◌else◌, List, [], ◌∷◌, ◌++◌, length, replicate, slice_index, take}
use Rattle.dns_symbol.specs.Characters.{line_feed, space as blank, open_parenthesis, close_parenthesis}
use Rattle.dns_lexer.specs.Pieces.{between}
use Rattle.dns_lexer.specs.declared.pieces.Span.{Span}
use Rattle.dns_lexer.specs.CursorStates.{blank_at}
use Rattle.zone_format.specs.declared.columns.Turn.{Turn}
use Rattle.zone_format.specs.declared.columns.Turn.TheVariants.{Edge, Led, Inside, Rest}
use Rattle.zone_format.specs.declared.format.Progress.{Progress}
use Rattle.zone_format.specs.declared.line_state.Above.{Above}
use Rattle.zone_format.specs.declared.line_state.Above.TheVariants.{Nothing, Line}
use Rattle.zone_format.specs.declared.line_state.LineState.{LineState}
use Rattle.zone_format.specs.Columns.{width_of, token_column, after_token, parenthesis_column, note_column, moved_in}
use Rattle.zone_format.specs.Form.{blank_below, gap, led_turn, start}
use Rattle.zone_format.specs.declared.refusal.Refusal.{Refusal}
use Rattle.zone_format.specs.declared.refusal.Refusal.TheVariants.{Wrong, Nul, OrderMark, OutOfMemory}
use Rattle.zone_format.specs.Refusal.{begins_order_mark, has_no_nul, order_mark_length}
use Rattle.zone_format.specs.Marks.{Mark, Token, Note, Open, Close, Feed, Lead, gap_marks, lead, shortened}

-- a line is empty
abbrev pub is_start : Turn → Bool
is_start Edge = true
is_start Led = true
is_start Inside = true
is_start _ = false

-- after a line's end
abbrev pub fed : LineState → LineState
fed s = record { above = if is_start s.turn then blank_below s.above else Line; depth = s.depth; noted = s.note; note = 0; turn = start s.depth; end = 0 }

-- a line that is not empty ends
abbrev pub last_line_end : LineState → List ℕ
last_line_end s = if is_start s.turn then [] else line_feed ∷ []

-- after a blank that an entry begins with
abbrev pub led : LineState → LineState
led s = record { above = s.above; depth = s.depth; noted = s.noted; note = s.note; turn = led_turn s.turn; end = s.end }

abbrev pub pushed : LineState → ℕ → ℕ → Turn → ℕ → LineState
pushed s depth note turn end = record { above = s.above; depth = depth; noted = s.noted; note = note; turn = turn; end = end }

-- after a token, a comment or a parenthesis
abbrev pub pushed_token : LineState → Bool → List ℕ → LineState
pushed_token s glued t = pushed s s.depth s.note (after_token s.turn s.end glued t) ((token_column s.turn s.end glued t - 1) + width_of t)

abbrev pub pushed_note : LineState → List ℕ → LineState
pushed_note s t = pushed s s.depth (note_column s.noted s.turn s.end t) Rest ((note_column s.noted s.turn s.end t - 1) + width_of t)

abbrev pub pushed_parenthesis : LineState → ℕ → LineState
pushed_parenthesis s depth = pushed s depth s.note Rest (parenthesis_column s.turn s.end)

-- the octets before an item at a column: a blank line above, and spaces
abbrev pub blanks_before : LineState → ℕ → List ℕ
blanks_before s column = (if is_start s.turn then gap line_feed s.above else []) ++ replicate (column - (s.end + 1)) blank

abbrev pub token_before : LineState → Bool → List ℕ → List ℕ
token_before s glued t = blanks_before s (token_column s.turn s.end glued t)

abbrev pub note_before : LineState → List ℕ → List ℕ
note_before s t = blanks_before s (note_column s.noted s.turn s.end t)

abbrev pub parenthesis_before : LineState → List ℕ
parenthesis_before s = blanks_before s (parenthesis_column s.turn s.end)

-- what marks are written as
abbrev pub written_from : LineState → List Mark → List ℕ
written_from s [] = last_line_end s
written_from s (Token glued t ∷ ms) = token_before s glued t ++ (t ++ written_from (pushed_token s glued t) ms)
written_from s (Note t ∷ ms) = note_before s t ++ (t ++ written_from (pushed_note s t) ms)
written_from s (Open ∷ ms) = parenthesis_before s ++ (open_parenthesis ∷ written_from (pushed_parenthesis s (s.depth + 1)) ms)
written_from s (Close ∷ ms) = parenthesis_before s ++ (close_parenthesis ∷ written_from (pushed_parenthesis s (s.depth - 1)) ms)
written_from s (Feed ∷ ms) = last_line_end s ++ written_from (fed s) ms
written_from s (Lead ∷ ms) = written_from (led s) ms

-- the state of writing after marks
abbrev pub state_after : LineState → List Mark → LineState
state_after s [] = s
state_after s (Token glued t ∷ ms) = state_after (pushed_token s glued t) ms
state_after s (Note t ∷ ms) = state_after (pushed_note s t) ms
state_after s (Open ∷ ms) = state_after (pushed_parenthesis s (s.depth + 1)) ms
state_after s (Close ∷ ms) = state_after (pushed_parenthesis s (s.depth - 1)) ms
state_after s (Feed ∷ ms) = state_after (fed s) ms
state_after s (Lead ∷ ms) = state_after (led s) ms

-- the first thing of a text, in the first column
abbrev pub is_edge : Above → Turn → Bool
is_edge Nothing Edge = true
is_edge _ _ = false

-- a token may be written: it has no NUL, and doesn't begin the text with a byte order mark
abbrev pub accepts : LineState → List ℕ → Bool
accepts s t = has_no_nul t && not (is_edge s.above s.turn && begins_order_mark t)

-- why a token that begins at an offset may not be written: it has a NUL, and might be written if it ended before that; or it begins with a byte order mark, and the mark might not be written
abbrev pub IsUnfit : LineState → (t : List ℕ) → (start : ℕ) → Refusal → Type 0
IsUnfit s t start (Wrong f) = ⊥
IsUnfit s t start (Nul at) = (i : ℕ) × (at ≡ start + i) × (i < length t) × (slice_index t i ≡ 0) × (accepts s (take i t) ≡ true)
IsUnfit s t start (OrderMark at) = (at ≡ start) × (begins_order_mark t ≡ true) × (accepts s (take (order_mark_length t) t) ≡ false)
IsUnfit s t start OutOfMemory = ⊤

-- each token may be written
abbrev pub accepts_from : LineState → List Mark → Bool
accepts_from s [] = true
accepts_from s (Token glued t ∷ ms) = accepts s t && accepts_from (pushed_token s glued t) ms
accepts_from s (Note t ∷ ms) = accepts_from (pushed_note s t) ms
accepts_from s (Open ∷ ms) = accepts_from (pushed_parenthesis s (s.depth + 1)) ms
accepts_from s (Close ∷ ms) = accepts_from (pushed_parenthesis s (s.depth - 1)) ms
accepts_from s (Feed ∷ ms) = accepts_from (fed s) ms
accepts_from s (Lead ∷ ms) = accepts_from (led s) ms

-- a line has no more characters than octets were written, and its columns are moved no further
pub record LineFits (octets : List ℕ) (s : LineState) : Type 0 where
  pub moved : moved_in s.turn ≤ s.end
  pub few : s.end ≤ length octets

-- marks were written: the rest to write of others is the same
abbrev pub WritesMarks : List Mark → List ℕ → LineState → List ℕ → LineState → Type 0
WritesMarks ms old s new t = (more : List Mark) → new ++ written_from t more ≡ old ++ written_from s (ms ++ more)

-- and accepted
abbrev pub Accepts : List Mark → LineState → LineState → Type 0
Accepts ms s t = (more : List Mark) → accepts_from t more ≡ accepts_from s (ms ++ more)

-- marks were written, and the state is that after them; no more parentheses are open than the octets may open
pub record Moves (ms : List Mark) (old : List ℕ) (s : LineState) (most : ℕ) (new : List ℕ) (t : LineState) : Type 0 where
  pub goes : WritesMarks ms old s new t
  pub accepts : Accepts ms s t
  pub line_state : t ≡ state_after s ms
  pub fits : LineFits new t
  pub depth : t.depth ≤ s.depth + most

-- a token, a comment or a parenthesis was appended, and the state is that after it
pub record PushesToken (old : List ℕ) (s : LineState) (glued : Bool) (t new : List ℕ) (after : LineState) : Type 0 where
  pub line_state : after ≡ pushed_token s glued t
  pub out : new ≡ old ++ (token_before s glued t ++ t)
  pub fits : LineFits new after

pub record PushesNote (old : List ℕ) (s : LineState) (t new : List ℕ) (after : LineState) : Type 0 where
  pub line_state : after ≡ pushed_note s t
  pub out : new ≡ old ++ (note_before s t ++ t)
  pub fits : LineFits new after

pub record PushesParenthesis (old : List ℕ) (s : LineState) (octet depth : ℕ) (new : List ℕ) (after : LineState) : Type 0 where
  pub line_state : after ≡ pushed_parenthesis s depth
  pub out : new ≡ old ++ (parenthesis_before s ++ octet ∷ [])
  pub fits : LineFits new after

-- the progress of writing
pub record Reaches (octets : List ℕ) (p : Progress) : Type 0 where
  pub within : p.at ≤ length octets
  pub depth : p.line_state.depth ≤ p.at

-- marks were written, up to an offset
pub record Advances (octets : List ℕ) (ms : List Mark) (old : List ℕ) (p : Progress) (to : ℕ) (tied : Bool) (new : List ℕ) (q : Progress) : Type 0 where
  pub goes : WritesMarks ms old p.line_state new q.line_state
  pub accepts : Accepts ms p.line_state q.line_state
  pub line_state : q.line_state ≡ state_after p.line_state ms
  pub fits : LineFits new q.line_state
  pub reaches : Reaches octets q
  pub at : q.at ≡ to
  pub is_token : q.is_token ≡ tied

abbrev pub WritesToken : List ℕ → Progress → Span → List ℕ → List ℕ → Progress → Type 0
WritesToken octets p span old new q = Advances octets (gap_marks octets p.at span.start ++ (Token (p.is_token && (span.start == p.at)) (between octets span.start span.end) ∷ [])) old p span.end true new q

-- the token is the first that may not
abbrev pub RejectsToken : List ℕ → Progress → Span → Refusal → Type 0
RejectsToken octets p span r = IsUnfit (state_after p.line_state (gap_marks octets p.at span.start)) (between octets span.start span.end) span.start r

abbrev pub WritesNote : List ℕ → Progress → Span → List ℕ → List ℕ → Progress → Type 0
WritesNote octets p span old new q = Advances octets (gap_marks octets p.at span.start ++ (Note (shortened (between octets span.start span.end)) ∷ [])) old p span.end false new q

abbrev pub WritesEnd : List ℕ → Progress → ℕ → List ℕ → List ℕ → Progress → Type 0
WritesEnd octets p at old new q = Advances octets (gap_marks octets p.at at ++ lead (blank_at octets at)) old p at false new q

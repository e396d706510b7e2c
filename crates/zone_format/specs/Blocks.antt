-- Zone files that are formatted in blocks of whole entries.
use Rattle.std.specs.Prelude.{◌≡◌, ◌⊎◌, ℕ, true, Bool, List, [], ◌++◌, encode_utf8_all}
use Rattle.dns_lexer.specs.Lexeme.{Line, lexeme_bytes}
use Rattle.dns_lexer.specs.Splitting.{Entries, Splits}
use Rattle.zone_format.specs.declared.columns.Turn.TheVariants.{Edge}
use Rattle.zone_format.specs.declared.line_state.Above.TheVariants.{Nothing}
use Rattle.zone_format.specs.declared.line_state.FormatState.{FormatState}
use Rattle.zone_format.specs.declared.line_state.LineState.{LineState}
use Rattle.zone_format.specs.Form.{Before, form, forms, lines}
use Rattle.zone_format.specs.Formats.{Formats}
use Rattle.zone_format.specs.Marks.{Mark, HasMarks}
use Rattle.zone_format.specs.Refusal.{has_form, may_follow}
use Rattle.zone_format.specs.Writing.{accepts_from, last_line_end, state_after, written_from}

-- octets are of the grammar, followed by a line end
pub record EndsInLine (octets : List ℕ) : Type 0 where
  pub front : List ℕ
  pub found : Entries
  pub has_cr : Bool
  pub splits : Splits front found
  pub is : encode_utf8_all octets ≡ front ++ lexeme_bytes (Line has_cr)

-- whole entries, or none
abbrev pub AreEntries : List ℕ → Type 0
AreEntries octets = (octets ≡ []) ⊎ EndsInLine octets

abbrev pub first_seam : FormatState
first_seam = record { above = Nothing; noted = 0 }

-- a line begins after a seam, outside parentheses
abbrev pub below_seam : FormatState → Before
below_seam s = record { depth = 0; noted = s.noted }

-- this was written of whole entries: whatever follows them, the form of all is that and then the form of the lines that follow below the seam
pub record FormedTo (octets out : List ℕ) (s : FormatState) : Type 0 where
  pub marks : List Mark
  pub read : HasMarks octets marks
  pub entries : AreEntries octets
  pub formed : (more : List Mark) → form (marks ++ more) ≡ out ++ forms s.above (below_seam s) (lines more)
  pub fit : (more : List Mark) → has_form (marks ++ more) ≡ may_follow s.above more

-- one more block was formatted
abbrev pub FormatsEntries : List ℕ → FormatState → List ℕ → List ℕ → FormatState → Type 0
FormatsEntries octets s old new t = AreEntries octets → (more : List ℕ) × (new ≡ old ++ more) × ((all out : List ℕ) → FormedTo all out s → FormedTo (all ++ octets) (out ++ more) t)

-- the last block was formatted, and so all
abbrev pub FormatsLast : List ℕ → FormatState → List ℕ → List ℕ → Type 0
FormatsLast octets s old new = (more : List ℕ) × (new ≡ old ++ more) × ((all out : List ℕ) → FormedTo all out s → Formats (all ++ octets) [] (out ++ more))

-- the state of writing after a seam
abbrev pub resting : FormatState → LineState
resting s = record { above = s.above; depth = 0; noted = s.noted; note = 0; turn = Edge; end = 0 }

abbrev pub seam_of : LineState → FormatState
seam_of s = record { above = s.above; noted = s.noted }

-- the marks of octets were written below a seam
pub record WritesBelow (octets : List ℕ) (s : FormatState) (old new : List ℕ) (t : LineState) : Type 0 where
  pub marks : List Mark
  pub read : HasMarks octets marks
  pub accepted : accepts_from (resting s) marks ≡ true
  pub out : new ++ last_line_end t ≡ old ++ written_from (resting s) marks
  pub line_state : t ≡ state_after (resting s) marks

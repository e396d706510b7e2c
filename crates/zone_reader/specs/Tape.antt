-- A filled tape: the spans of the tokens of the first entry of octets.
use Rattle.std.specs.Prelude.{◌≡◌, ◌⊎◌, ◌≤◌, ◌<◌, ℕ, ◌+◌, ◌-◌, Bool, true, false, List, [], ◌∷◌, ◌++◌, length, map, slice_index, Option, None, Result, Ok}
use Rattle.std.specs.List.{AllByRecursion}
use Rattle.dns_lexer.specs.EntryTokens.{TokenSeen, ends_at}
use Rattle.dns_lexer.specs.Pieces.{between}
use Rattle.dns_lexer.specs.Skip.{is_in}
use Rattle.dns_lexer.specs.declared.pieces.EndOfEntry.{EndOfEntry}
use Rattle.dns_lexer.specs.declared.pieces.Fault.{Fault}
use Rattle.dns_lexer.specs.declared.pieces.Piece.{Piece}
use Rattle.dns_lexer.specs.declared.pieces.Span.{Span}
use Rattle.dns_lexer.specs.declared.runs.OctetClass.TheVariants.{Blank, Word}
use Rattle.dns_symbol.specs.Characters.{line_feed}
use Rattle.zone_reader.specs.declared.tape.TokenSpan.{TokenSpan}
use Rattle.zone_reader.specs.FirstEntry.{StopsFirst, piece_tokens, stop_offset}

-- the token at a span
abbrev pub span_token : List ℕ → TokenSpan → TokenSeen
span_token octets s = record { text = between octets s.start s.end; is_quoted = s.is_quoted; is_adjacent = s.is_adjacent; at = s.offset }

-- the span's octets are among these
abbrev pub IsSpanIn : List ℕ → TokenSpan → Type 0
IsSpanIn octets s = (s.offset ≤ s.start) × (s.start ≤ s.end) × (s.end ≤ length octets)

-- the first entry of the octets has these tokens, and ends at this offset
pub record FillsWith (octets : List ℕ) (spans : List TokenSpan) (end : ℕ) : Type 0 where
  pub stop : EndOfEntry
  pub left : List (Result Piece Fault)
  pub first : StopsFirst octets (Ok stop) left
  pub ends : stop.at ≡ end
  pub tokens : map (span_token octets) spans ≡ piece_tokens octets None first.found
  pub within : AllByRecursion (IsSpanIn octets) spans

-- the same, and other pieces follow the entry's end: so octets added don't change it
abbrev pub FillsLine : List ℕ → List TokenSpan → ℕ → Type 0
FillsLine octets spans end = (f : FillsWith octets spans end) × (0 < length f.left)

-- if the first entry of the octets ends at all, it has more tokens than a tape of this capacity holds
abbrev pub FitsNoTape : ℕ → List ℕ → Type 0
FitsNoTape capacity octets = (stop : EndOfEntry) (left : List (Result Piece Fault)) (first : StopsFirst octets (Ok stop) left) → capacity < length (piece_tokens octets None first.found)

-- the octets before a line feed are those of words, without escapes and without !#$%&', and blanks
pub record IsPlainLine (octets : List ℕ) (feed : ℕ) : Type 0 where
  pub within : feed < length octets
  pub feeds : slice_index octets feed ≡ line_feed
  pub each : (n : ℕ) → n < feed → (is_in Word (slice_index octets n) ≡ true) ⊎ (is_in Blank (slice_index octets n) ≡ true)

-- the octets begin with no such line
abbrev pub LacksPlainLine : List ℕ → Type 0
LacksPlainLine octets = (feed : ℕ) → ¬ IsPlainLine octets feed

-- ---- of private functions

-- the span of a word, and of a quoted string by the span with its double quotes, after a token that ended there
abbrev pub word_span : Span → Option ℕ → TokenSpan
word_span p ended = record { offset = p.start; start = p.start; end = p.end; is_quoted = false; is_adjacent = ends_at ended p.start }

abbrev pub quote_span : Span → Option ℕ → TokenSpan
quote_span p ended = record { offset = p.start; start = p.start + 1; end = p.end - 1; is_quoted = true; is_adjacent = ends_at ended p.start }

-- a span is appended, or the tape of this capacity is full
abbrev pub PushesSpan : ℕ → List TokenSpan → TokenSpan → Bool → List TokenSpan → Type 0
PushesSpan capacity old s true new = new ≡ old ++ s ∷ []
PushesSpan capacity old s false new = (capacity ≤ length old) × (new ≡ old)

-- ---- laws

-- whatever pieces and stop the octets begin with: the tokens at the spans are those of these pieces, and the stop is the end of the tape's entry
abbrev pub FilledOnce : Type 0
FilledOnce = (octets : List ℕ) (spans : List TokenSpan) (end : ℕ) (f : FillsWith octets spans end) (stop : Result EndOfEntry Fault) (left : List (Result Piece Fault)) (first : StopsFirst octets stop left)
    → (map (span_token octets) spans ≡ piece_tokens octets None first.found) × (stop ≡ Ok f.stop) × (stop_offset stop ≡ end)

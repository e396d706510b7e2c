-- The tokens of an entry that ends with its line.
use Rattle.std.specs.Prelude.{◌≡◌, ◌<◌, ◌^◌, ℕ, ◌+◌, List, length, map, None, Some}
use Rattle.std.specs.List.{AllByRecursion}
use Rattle.dns_octets.specs.Room.{Room}
use Rattle.dns_lexer.specs.EntryTokens.{TokenSeen}
use Rattle.zone_reader.specs.TapeSource.{UnreadSeen, token_after}
use Rattle.zone_reader.specs.Tape.{IsSpanIn, span_token}
use Rattle.zone_reader.specs.declared.tape.TokenSpan.{TokenSpan}
use Rattle.zone_reader.specs.Records.{ReadsNextEntry}
use Rattle.zone_reader.specs.Source.{last_token_end}
use Rattle.zone_reader.specs.TextPieces.{StartsAt}
use Rattle.zone_reader.specs.declared.line.LineRead.{LineRead}
use Rattle.zone_reader.specs.declared.records.RecordReader.{RecordReader}
use Rattle.zone_reader.specs.declared.state.State.{State}

-- the tokens at spans of octets that begin at an offset
abbrev pub tokens_at : List ℕ → ℕ → List TokenSpan → List TokenSeen
tokens_at octets base spans = map (λ s. token_after base (span_token octets s)) spans

-- the unread tokens of an entry, whose end is where the last one ends; or where the one before them ended, if none is left
abbrev pub line_seen : List ℕ → ℕ → List TokenSpan → ℕ → UnreadSeen
line_seen octets base spans ended = record { tokens = tokens_at octets base spans; end = record { at = last_token_end ended (tokens_at octets base spans); behind = None } }

-- the spans are among the octets, and no offset overflows
pub record IsLineOf (octets : List ℕ) (base : ℕ) (spans : List TokenSpan) : Type 0 where
  pub within : AllByRecursion (IsSpanIn octets) spans
  pub room : base + length octets + 2 < 2 ^ 64

-- a reader that starts at an offset, with a state, returns this for the next entry; then it is at this offset, with the state that the entry leaves
pub record ReadsLine (room : Room) (octets : List ℕ) (at : ℕ) (before : State) (old : List ℕ) (line : LineRead) (after : State) (new : List ℕ) : Type 0 where
  pub reader : RecordReader
  pub starts : StartsAt octets at before reader
  pub next : RecordReader
  pub reads : ReadsNextEntry room reader old (Some line.read) next new
  pub state_is : next.state ≡ after
  pub ends : next.source.began ≡ line.end

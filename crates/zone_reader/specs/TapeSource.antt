-- The unread tokens of an entry, with their offsets in the whole input.
use Rattle.std.specs.Prelude.{◌≤◌, ◌<◌, ◌^◌, ℕ, ◌+◌, List, length, map, None}
use Rattle.std.specs.List.{AllByRecursion}
use Rattle.dns_lexer.specs.EntryTokens.{TokenSeen}
use Rattle.rdata_fields.specs.Source.{EntryEnd}
use Rattle.zone_reader.specs.Tape.{IsSpanIn, span_token}
use Rattle.zone_reader.specs.declared.tape.TokenSpan.{TokenSpan}

-- the same token, if its octets begin at the offset `base`
abbrev pub token_after : ℕ → TokenSeen → TokenSeen
token_after base t = record { text = t.text; is_quoted = t.is_quoted; is_adjacent = t.is_adjacent; at = base + t.at }

abbrev pub tokens_after : ℕ → List TokenSeen → List TokenSeen
tokens_after base tokens = map (token_after base) tokens

-- the unread tokens of an entry, and its end
pub record UnreadSeen : Type 0 where
  pub tokens : List TokenSeen
  pub end : EntryEnd

-- the tokens at spans, of an entry that ends at an offset
abbrev pub tape_seen : List ℕ → ℕ → List TokenSpan → ℕ → UnreadSeen
tape_seen octets base spans end = record { tokens = map (λ s. token_after base (span_token octets s)) spans; end = record { at = base + end; behind = None } }

-- the spans and the end are among the octets, and no offset overflows
pub record IsTapeOf (octets : List ℕ) (base : ℕ) (spans : List TokenSpan) (end : ℕ) : Type 0 where
  pub within : AllByRecursion (IsSpanIn octets) spans
  pub ends : end ≤ length octets
  pub room : base + length octets < 2 ^ 64

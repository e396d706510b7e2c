-- The tokens of an entry, with their offsets in the whole input.
use Rattle.std.specs.Prelude.{⊤, ◌≡◌, ℕ, ◌+◌, ◌<◌, ◌^◌, false, List, [], ◌∷◌, length, None, Result, Ok, Err}
use Rattle.dns_lexer.specs.EntryTokens.{TokenSeen}
use Rattle.dns_lexer.specs.Pieces.{end_at}
use Rattle.dns_lexer.specs.declared.pieces.EndOfEntry.{EndOfEntry}
use Rattle.dns_lexer.specs.declared.pieces.Fault.{Fault}
use Rattle.dns_lexer.specs.declared.pieces.Piece.{Piece}
use Rattle.zone_reader.specs.Source.{SourceSeen, entry_end, unread_entry_tokens, stop_place}
use Rattle.zone_reader.specs.FirstEntry.{StopsFirst, piece_tokens, stop_offset}
use Rattle.zone_reader.specs.TapeSource.{UnreadSeen, tokens_after}

-- the unread tokens and the end of an entry, at later offsets
abbrev pub placed_after : ℕ → SourceSeen → UnreadSeen
placed_after base s = record { tokens = tokens_after base (unread_entry_tokens s); end = record { at = base + stop_place s; behind = (entry_end s).behind } }

-- each of these later offsets is below 2^64
abbrev pub EachFitsFrom : ℕ → List TokenSeen → Type 0
EachFitsFrom base [] = ⊤
EachFitsFrom base (t ∷ ts) = (base + t.at < 2 ^ 64) × EachFitsFrom base ts

pub record FitsFrom (base : ℕ) (s : SourceSeen) : Type 0 where
  pub tokens : EachFitsFrom base (unread_entry_tokens s)
  pub end : base + stop_place s < 2 ^ 64

-- nothing is left, or only an entry without octets
abbrev pub NothingRemains : ℕ → Result EndOfEntry Fault → List (Result Piece Fault) → Type 0
NothingRemains n (Ok end) [] = end.at ≡ n
NothingRemains n (Ok end) (x ∷ left) = (end.at ≡ n) × (x ∷ left ≡ Ok (end_at n false) ∷ [])
NothingRemains n (Err f) left = left ≡ []

-- one entry, or the part before a syntax error, has its tokens and its end
abbrev pub BeginsPlaced : List ℕ → ℕ → UnreadSeen → Type 0
BeginsPlaced octets base p = (stop : Result EndOfEntry Fault) (left : List (Result Piece Fault)) (x : StopsFirst octets stop left) → NothingRemains (length octets) stop left
    → (p.tokens ≡ tokens_after base (piece_tokens octets None x.found)) × (p.end.at ≡ base + stop_offset stop)

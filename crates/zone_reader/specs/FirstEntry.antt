-- The first entry of octets, by its pieces: words, quoted strings and comments, and then the entry's end or a syntax error.
use Rattle.std.specs.Prelude.{ℕ, List, [], ◌∷◌, ◌++◌, map, Option, Some, None, Result, Ok, Err}
use Rattle.dns_lexer.specs.EntryTokens.{TokenSeen, quote_seen, word_seen}
use Rattle.dns_lexer.specs.PassedLine.{HasNoEnd}
use Rattle.dns_lexer.specs.Pieces.{AreItemsOf}
use Rattle.dns_lexer.specs.declared.pieces.EndOfEntry.{EndOfEntry}
use Rattle.dns_lexer.specs.declared.pieces.Fault.{Fault}
use Rattle.dns_lexer.specs.declared.pieces.Piece.{Piece}
use Rattle.dns_lexer.specs.declared.pieces.Piece.TheVariants.{Word as WordAt, Quote as QuoteAt, Comment as CommentAt, End as EndAt}

-- the tokens of pieces of one entry; the first token is adjacent to the one before it if that ended where it begins
abbrev pub piece_tokens : List ℕ → Option ℕ → List Piece → List TokenSeen
piece_tokens octets ended [] = []
piece_tokens octets ended (WordAt p ∷ ps) = word_seen octets ended p ∷ piece_tokens octets (Some p.end) ps
piece_tokens octets ended (QuoteAt p ∷ ps) = quote_seen octets ended p ∷ piece_tokens octets (Some p.end) ps
piece_tokens octets ended (CommentAt p ∷ ps) = piece_tokens octets ended ps
piece_tokens octets ended (EndAt e ∷ ps) = piece_tokens octets None ps

-- the end of the last token of pieces, if they have one
abbrev pub last_ended : Option ℕ → List Piece → Option ℕ
last_ended ended [] = ended
last_ended ended (WordAt p ∷ ps) = last_ended (Some p.end) ps
last_ended ended (QuoteAt p ∷ ps) = last_ended (Some p.end) ps
last_ended ended (CommentAt p ∷ ps) = last_ended ended ps
last_ended ended (EndAt e ∷ ps) = last_ended None ps

-- an entry stops at its end, or at a syntax error before that
abbrev pub piece_of_stop : Result EndOfEntry Fault → Result Piece Fault
piece_of_stop (Ok end) = Ok (EndAt end)
piece_of_stop (Err f) = Err f

-- the offset of the end or of the syntax error
abbrev pub stop_offset : Result EndOfEntry Fault → ℕ
stop_offset (Ok end) = end.at
stop_offset (Err f) = f.at

-- the octets have these pieces first, then this stop of their first entry, and then the others
pub record StopsFirst (octets : List ℕ) (stop : Result EndOfEntry Fault) (left : List (Result Piece Fault)) : Type 0 where
  pub found : List Piece
  pub is_open : HasNoEnd found
  pub given : AreItemsOf octets (map Ok found ++ piece_of_stop stop ∷ left)

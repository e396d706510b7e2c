-- The tokens of octets for parsers of records: those of each entry with offsets, quotes and adjacency, its leading blank, and its end.
use Rattle.std.specs.Prelude.{⊤, ◌≡◌, ◌⊎◌, ◌≤◌, ℕ, ◌+◌, ◌-◌, ◌==◌, Bool, true, false, if◌then◌else◌, List, [], ◌∷◌, ◌++◌, map, length, Option, Some, None, Result, Ok, Err}
use Rattle.dns_symbol.specs.Characters.{double_quote}
use Rattle.dns_lexer.specs.declared.pieces.Span.{Span}
use Rattle.dns_lexer.specs.declared.pieces.EndOfEntry.{EndOfEntry}
use Rattle.dns_lexer.specs.declared.pieces.Fault.{Fault}
use Rattle.dns_lexer.specs.declared.pieces.Piece.{Piece}
use Rattle.dns_lexer.specs.declared.pieces.Piece.TheVariants.{Word as WordAt, Quote as QuoteAt, Comment as CommentAt, End as EndAt}
use Rattle.dns_lexer.specs.declared.cursor_state.CursorState.{CursorState}
use Rattle.dns_lexer.specs.declared.entry_tokens.EntryToken.{EntryToken}
use Rattle.dns_lexer.specs.declared.entry_tokens.EntryPart.{EntryPart}
use Rattle.dns_lexer.specs.declared.entry_tokens.EntryPart.TheVariants.{Token as TokenOf, End as EndOf}
use Rattle.dns_lexer.specs.declared.entry_tokens.NextEntryError.{NextEntryError}
use Rattle.dns_lexer.specs.declared.entry_tokens.NextEntryError.TheVariants.{BadText, ShortBuf}
use Rattle.dns_lexer.specs.Splitting.{Entries, with_token}
use Rattle.dns_lexer.specs.Pieces.{AreOctets, AreItemsOf, between}
use Rattle.dns_lexer.specs.CursorStates.{AreItemsFrom, blank_at}

-- a token: its text, whether it is a quoted string, whether it begins where the token before it ended, and its offset
pub record TokenSeen : Type 0 where
  pub text : List ℕ
  pub is_quoted : Bool
  pub is_adjacent : Bool
  pub at : ℕ

-- a token of an entry that begins with a blank or doesn't; or an entry's end
pub data PartSeen : Type 0 where
  TokenIs : TokenSeen → Bool → PartSeen
  EndIs : EndOfEntry → PartSeen

-- the token before ended there, if there is one
abbrev pub ends_at : Option ℕ → ℕ → Bool
ends_at None at = false
ends_at (Some e) at = e == at

abbrev pub token_at : List ℕ → Bool → ℕ → Option ℕ → TokenSeen
token_at text is_quoted at ended = record { text = text; is_quoted = is_quoted; is_adjacent = ends_at ended at; at = at }

-- the text of a word is the word, that of a quoted string is between its double quotes
abbrev pub word_seen : List ℕ → Option ℕ → Span → TokenSeen
word_seen octets ended p = token_at (between octets p.start p.end) false p.start ended

abbrev pub quote_seen : List ℕ → Option ℕ → Span → TokenSeen
quote_seen octets ended p = token_at (between octets (p.start + 1) (p.end - 1)) true p.start ended

-- the tokens of pieces: the first piece is in an entry that began at an octet; the token before it, if there is one, ended at `ended`
abbrev pub seen_from : List ℕ → ℕ → Option ℕ → List (Result Piece Fault) → List (Result PartSeen Fault)
seen_from octets began ended [] = []
seen_from octets began ended (Ok (WordAt p) ∷ given) = Ok (TokenIs (word_seen octets ended p) (blank_at octets began)) ∷ seen_from octets began (Some p.end) given
seen_from octets began ended (Ok (QuoteAt p) ∷ given) = Ok (TokenIs (quote_seen octets ended p) (blank_at octets began)) ∷ seen_from octets began (Some p.end) given
seen_from octets began ended (Ok (CommentAt p) ∷ given) = seen_from octets began ended given
seen_from octets began ended (Ok (EndAt e) ∷ given) = Ok (EndIs e) ∷ seen_from octets e.at None given
seen_from octets began ended (Err f ∷ given) = Err f ∷ seen_from octets began ended given

-- the tokens of octets
abbrev pub IsSeen : List ℕ → List (Result PartSeen Fault) → Type 0
IsSeen octets seen = (given : List (Result Piece Fault)) × AreItemsOf octets given × (seen ≡ seen_from octets 0 None given)

-- and those from an entry's beginning on, with the offsets among all
abbrev pub IsSeenFrom : List ℕ → ℕ → List (Result PartSeen Fault) → Type 0
IsSeenFrom octets at seen = (given : List (Result Piece Fault)) × AreItemsFrom octets at given × (seen ≡ seen_from octets at None given)

-- a token as it is spelled
abbrev pub spelled : TokenSeen → List ℕ
spelled t = if t.is_quoted then double_quote ∷ (t.text ++ double_quote ∷ []) else t.text

-- a token is at its offset as it is spelled
abbrev pub IsAsSpelled : List ℕ → Result PartSeen Fault → Type 0
IsAsSpelled octets (Ok (TokenIs t b)) = between octets t.at (t.at + length (spelled t)) ≡ spelled t
IsAsSpelled octets (Ok (EndIs e)) = ⊤
IsAsSpelled octets (Err f) = ⊤

-- the tokens as they are spelled, cut at the ends of entries
abbrev pub entries_seen : List (Result PartSeen Fault) → Entries
entries_seen [] = []
entries_seen (Ok (TokenIs t b) ∷ seen) = with_token (spelled t) (entries_seen seen)
entries_seen (Ok (EndIs e) ∷ seen) = [] ∷ entries_seen seen
entries_seen (Err f ∷ seen) = []

-- the item that a caller gets, as a token
abbrev pub token_seen : EntryToken → TokenSeen
token_seen t = record { text = t.text.now; is_quoted = t.is_quoted; is_adjacent = t.is_adjacent; at = t.at }

abbrev pub part_seen : EntryPart → PartSeen
part_seen (TokenOf t b) = TokenIs (token_seen t) b
part_seen (EndOf e) = EndIs e

abbrev pub answer_seen : Result EntryPart Fault → Result PartSeen Fault
answer_seen (Ok p) = Ok (part_seen p)
answer_seen (Err f) = Err f

-- of one piece: nothing for a comment
abbrev pub seen_of : List ℕ → Bool → Option ℕ → Result Piece Fault → Option (Result PartSeen Fault)
seen_of octets blank ended (Ok (WordAt p)) = Some (Ok (TokenIs (word_seen octets ended p) blank))
seen_of octets blank ended (Ok (QuoteAt p)) = Some (Ok (TokenIs (quote_seen octets ended p) blank))
seen_of octets blank ended (Ok (CommentAt p)) = None
seen_of octets blank ended (Ok (EndAt e)) = Some (Ok (EndIs e))
seen_of octets blank ended (Err f) = Some (Err f)

-- the end of the last token of the entry that is open after a piece
abbrev pub ended_after : Result Piece Fault → Option ℕ → Option ℕ
ended_after (Ok (WordAt p)) ended = Some p.end
ended_after (Ok (QuoteAt p)) ended = Some p.end
ended_after (Ok (CommentAt p)) ended = ended
ended_after (Ok (EndAt e)) ended = None
ended_after (Err f) ended = ended

-- a quoted string includes its double quotes
abbrev pub IsWide : Result Piece Fault → Type 0
IsWide (Ok (QuoteAt p)) = p.start + 2 ≤ p.end
IsWide _ = ⊤

-- tokens of one entry, which begins with a blank or doesn't
abbrev pub tokens_seen : Bool → List EntryToken → List (Result PartSeen Fault)
tokens_seen blank tokens = map (λ t. Ok (TokenIs (token_seen t) blank)) tokens

-- the tokens of an entry come first and then its end, or the error, which is the last; each has whether the entry begins with a blank
abbrev pub IsOpen : Bool → List (Result PartSeen Fault) → Type 0
IsOpen blank [] = ⊥
IsOpen blank (Ok (TokenIs t b) ∷ seen) = (b ≡ blank) × IsOpen blank seen
IsOpen blank (Ok (EndIs e) ∷ seen) = e.begins_blank ≡ blank
IsOpen blank (Err f ∷ seen) = seen ≡ []

-- nothing remains, or some entry is open
abbrev pub IsInEntries : List (Result PartSeen Fault) → Type 0
IsInEntries seen = (seen ≡ []) ⊎ ((blank : Bool) × IsOpen blank seen)

-- a token is first
abbrev pub BeginsToken : List (Result PartSeen Fault) → Type 0
BeginsToken (Ok (TokenIs t b) ∷ seen) = ⊤
BeginsToken _ = ⊥

-- the tokens of an entry and its end are returned; or nothing remains; or the tokens before the error, after which nothing remains; or all remains, since a token is there and an allocation failed
abbrev pub ReturnsEntry : List (Result PartSeen Fault) → List EntryToken → Result (Option EndOfEntry) NextEntryError → List (Result PartSeen Fault) → Type 0
ReturnsEntry old tokens (Ok (Some end)) new = old ≡ tokens_seen end.begins_blank tokens ++ Ok (EndIs end) ∷ new
ReturnsEntry old tokens (Ok None) new = (old ≡ []) × (tokens ≡ []) × (new ≡ [])
ReturnsEntry old tokens (Err (BadText f)) new = (blank : Bool) × (old ≡ tokens_seen blank tokens ++ Err f ∷ new) × (new ≡ [])
ReturnsEntry old tokens (Err ShortBuf) new = (tokens ≡ []) × (new ≡ old) × BeginsToken old

-- an offset among octets, with at most as many open parentheses as octets before it
pub record IsOffsetAtDepth (octets : List ℕ) (s : CursorState) : Type 0 where
  pub are_octets : AreOctets octets
  pub deep : s.depth ≤ s.at
  pub within : s.at ≤ length octets

-- The tokens of an entry, and the result of the call that returns them.
use Rattle.std.specs.Prelude.{⊤, ◌≡◌, ◌≢◌, ℕ, ◌+◌, ◌<◌, ◌≤◌, Bool, true, false, List, [], ◌∷◌, length, drop, min, encode_utf8_all, Result, Ok, Err, map}
use Rattle.dns_octets.specs.Octets.{greatest_length}
use Rattle.dns_lexer.specs.Unclosed.{IsOpener, LacksClosing}
use Rattle.dns_lexer.specs.Pieces.{EachWithin, ReadsOctetsFrom, place_of, IsOctetPieces}
use Rattle.dns_lexer.specs.declared.pieces.EndOfEntry.{EndOfEntry}
use Rattle.dns_lexer.specs.declared.pieces.Piece.{Piece}
use Rattle.dns_lexer.specs.declared.pieces.Piece.TheVariants.{Word as WordAt, Quote as QuoteAt, Comment as CommentAt, End as EndAt}
use Rattle.dns_lexer.specs.declared.pieces.Fault.{Fault as TextFault}
use Rattle.dns_lexer.specs.declared.pieces.Wrong.{Wrong}
use Rattle.dns_lexer.specs.declared.pieces.Wrong.TheVariants.{Closing as NoneOpen, OpenParenthesis as NotClosed, OpenQuote as NotQuoted, LoneReturn as NoFeed, BadEscape as NoEscape}
use Rattle.c_calls.specs.Reports.{number_of, ReportsFault, at_start}
use Rattle.c_calls.specs.declared.outcome.Outcome.{Outcome}
use Rattle.c_calls.specs.declared.outcome.Refusal.{Refusal}
use Rattle.c_calls.specs.declared.outcome.Refusal.TheVariants.{NoRoom, BadEscape, Closing, OpenParenthesis, OpenQuote, LoneReturn, BadCursor}
use Rattle.c_calls.specs.declared.tokens.Token.{Token as TokenAt}
use Rattle.c_calls.specs.declared.tokens.Cursor.{Cursor}
use Rattle.c_calls.specs.declared.tokens.Entry.{Entry}
use Rattle.c_calls.specs.declared.tokens.EntryEnd.{EntryEnd}
use Rattle.c_calls.specs.declared.tokens.EntryEnd.TheVariants.{End, Fault, Nothing}
use Rattle.c_calls.specs.declared.tokens.Step.{Step}
use Rattle.c_calls.specs.declared.tokens.Step.TheVariants.{Token, Comment, EntryEnd as Stops}

abbrev pub bit : Bool → ℕ
bit true = 1
bit false = 0

abbrev pub is_nothing : {A : Type 0} → List A → Bool
is_nothing [] = true
is_nothing (x ∷ xs) = false

abbrev pub refusal_of_wrong : Wrong → Refusal
refusal_of_wrong NoneOpen = Closing
refusal_of_wrong NotClosed = OpenParenthesis
refusal_of_wrong (NotQuoted at) = OpenQuote
refusal_of_wrong NoFeed = LoneReturn
refusal_of_wrong NoEscape = BadEscape

-- where what is not closed was opened: the double quote, or the outermost parenthesis among the octets from an offset on; else unchanged
abbrev pub Opens : List ℕ → ℕ → Wrong → ℕ → ℕ → Type 0
Opens text at (NotQuoted i) old new = new ≡ i
Opens text at NotClosed old new = (i : ℕ) × (new ≡ at + i) × (new < length text) × IsOpener (encode_utf8_all (drop at text)) (place_of (drop at text) i)
Opens text at NoneOpen old new = new ≡ old
Opens text at NoFeed old new = new ≡ old
Opens text at NoEscape old new = new ≡ old

-- if the syntax error is an open parenthesis, the octets from an offset on leave it open
abbrev pub LeavesOpen : List ℕ → ℕ → EntryEnd → Type 0
LeavesOpen text at (End e last) = ⊤
LeavesOpen text at (Fault f) = f.wrong ≡ NotClosed → LacksClosing (encode_utf8_all (drop at text))
LeavesOpen text at Nothing = ⊤

abbrev pub token_between : ℕ → ℕ → ℕ → TokenAt
token_between s e quoted = record { start = s; end = e; is_quoted = quoted }

-- the words and quoted texts of pieces up to the first end of an entry or syntax error
abbrev pub tokens_of : List (Result Piece TextFault) → List TokenAt
tokens_of (Ok (WordAt p) ∷ given) = token_between p.start p.end 0 ∷ tokens_of given
tokens_of (Ok (QuoteAt p) ∷ given) = token_between p.start p.end 1 ∷ tokens_of given
tokens_of (Ok (CommentAt p) ∷ given) = tokens_of given
tokens_of (Ok (EndAt e) ∷ given) = []
tokens_of (Err f ∷ given) = []
tokens_of [] = []

-- the first end, which is the last piece or not; or the first syntax error
abbrev pub stop_of : List (Result Piece TextFault) → EntryEnd
stop_of (Ok (WordAt p) ∷ given) = stop_of given
stop_of (Ok (QuoteAt p) ∷ given) = stop_of given
stop_of (Ok (CommentAt p) ∷ given) = stop_of given
stop_of (Ok (EndAt e) ∷ given) = End e (is_nothing given)
stop_of (Err f ∷ given) = Fault f
stop_of [] = Nothing

-- a token before those of the first entry
abbrev pub with_first : TokenAt → List (List TokenAt) → List (List TokenAt)
with_first t [] = (t ∷ []) ∷ []
with_first t (ts ∷ more) = (t ∷ ts) ∷ more

-- the words and quoted texts of pieces, cut where entries end
abbrev pub entries_of_pieces : List Piece → List (List TokenAt)
entries_of_pieces [] = []
entries_of_pieces (WordAt p ∷ ps) = with_first (token_between p.start p.end 0) (entries_of_pieces ps)
entries_of_pieces (QuoteAt p ∷ ps) = with_first (token_between p.start p.end 1) (entries_of_pieces ps)
entries_of_pieces (CommentAt p ∷ ps) = entries_of_pieces ps
entries_of_pieces (EndAt e ∷ ps) = [] ∷ entries_of_pieces ps

-- entries in a row from an offset on: each is the first one from there, and is flagged if it is the last; the next one begins where it ends
abbrev pub InARow : List ℕ → ℕ → List (List TokenAt) → Type 0
InARow text at [] = ⊥
InARow text at (tokens ∷ more) =
    (given : List (Result Piece TextFault)) × (e : EndOfEntry) × ReadsOctetsFrom text at given × (tokens_of given ≡ tokens) × (stop_of given ≡ End e (is_nothing more))
    × (more ≢ [] → InARow text e.at more)

-- the entries of the pieces of a text are in a row
abbrev pub EntriesInARow : Type 0
EntriesInARow = (text : List ℕ) (found : List Piece) → IsOctetPieces text found → EachWithin (length text) (map Ok found) → InARow text 0 (entries_of_pieces found)

-- the step that was taken of the pieces
abbrev pub IsPieceStep : List (Result Piece TextFault) → Step → List (Result Piece TextFault) → Type 0
IsPieceStep old (Token t) new = (tokens_of old ≡ t ∷ tokens_of new) × (stop_of old ≡ stop_of new) × (length new < length old)
IsPieceStep old Comment new = (tokens_of old ≡ tokens_of new) × (stop_of old ≡ stop_of new) × (length new < length old)
IsPieceStep old (Stops stop) new = (tokens_of old ≡ []) × (stop_of old ≡ stop)

-- values written over the start of others, up to their length
abbrev pub written_over_start : {A : Type 0} → List A → List A → List A
written_over_start [] old = old
written_over_start (x ∷ xs) [] = []
written_over_start (x ∷ xs) (y ∷ ys) = x ∷ written_over_start xs ys

-- a number, limited to the range of a `usize`
abbrev pub counted : ℕ → ℕ
counted n = min n greatest_length

-- the first entry of these pieces: the tokens of it that fit, their number, and how it stops
pub record IsEntry (given : List (Result Piece TextFault)) (old : List TokenAt) (count : ℕ) (stop : EntryEnd) (new : List TokenAt) : Type 0 where
  pub tokens_are : new ≡ written_over_start (tokens_of given) old
  pub count_is : count ≡ counted (length (tokens_of given))
  pub stop_is : stop ≡ stop_of given

-- the entry from an offset of a text on is found so
abbrev pub NotesEntry : List ℕ → ℕ → List TokenAt → Entry → List TokenAt → Type 0
NotesEntry text at old entry new =
    (given : List (Result Piece TextFault)) × ReadsOctetsFrom text at given × EachWithin (length text) given × IsEntry given old entry.count entry.stop new

-- the result for an entry of this number of tokens with this capacity, and the cursor after it
abbrev pub ReportsEntry : List ℕ → ℕ → EntryEnd → ℕ → ℕ → Cursor → Cursor → Outcome → Type 0
ReportsEntry text count (End e last) room status old new outcome =
    (outcome ≡ record { length = count; place = 0 })
    × (count ≤ room → (status ≡ 0) × (new ≡ record { at = e.at; begins_blank = bit e.begins_blank; is_done = bit last; opened = old.opened }))
    × (room < count → (status ≡ number_of NoRoom) × (new ≡ old))
ReportsEntry text count (Fault f) room status old new outcome =
    (outcome ≡ record { length = min count room; place = f.at }) × (status ≡ number_of (refusal_of_wrong f.wrong))
    × (new ≡ record old { is_done = 1; opened = new.opened }) × Opens text old.at f.wrong old.opened new.opened
ReportsEntry text count Nothing room status old new outcome =
    (outcome ≡ record { length = count; place = 0 }) × (status ≡ 1) × (new ≡ record old { is_done = 1 })

abbrev pub ReportsStop : List ℕ → Entry → ℕ → ℕ → Cursor → Cursor → Outcome → Type 0
ReportsStop text entry room status old new outcome = ReportsEntry text entry.count entry.stop room status old new outcome

-- the entry from an offset on is read, and the result is returned
pub record ReadsEntry (text : List ℕ) (old new : Cursor) (before after : List TokenAt) (status : ℕ) (outcome : Outcome) : Type 0 where
  pub given : List (Result Piece TextFault)
  pub reads : ReadsOctetsFrom text old.at given
  pub within : EachWithin (length text) given
  pub count : ℕ
  pub stop : EntryEnd
  pub entry : IsEntry given before count stop after
  pub told : ReportsEntry text count stop (length before) status old new outcome

-- a text that is done has no entry; a cursor past the end is rejected; and else the entry that begins there is returned
pub record NextEntry (text : List ℕ) (old new : Cursor) (before after : List TokenAt) (status : ℕ) (outcome : Outcome) : Type 0 where
  pub done : old.is_done ≢ 0 → (status ≡ 1) × (outcome ≡ record { length = 0; place = 0 }) × (new ≡ old) × (after ≡ before)
  pub past : old.is_done ≡ 0 → length text < old.at → ReportsFault (at_start BadCursor) status outcome × (new ≡ old) × (after ≡ before)
  pub reads : old.is_done ≡ 0 → old.at ≤ length text → ReadsEntry text old new before after status outcome

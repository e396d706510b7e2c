-- The result of `split`.
use Rattle.std.specs.Prelude.{◌≡◌, ℕ, Bool, true, false, List, [], ◌∷◌, ◌++◌, map, codes, Result, Ok, Err, Vec, String, string_bytes}
use Rattle.std.specs.List.{list_any}
use Rattle.dns_lexer.specs.declared.error.SplitError.{SplitError}
use Rattle.dns_lexer.specs.declared.error.SplitError.TheVariants.{BadText, ShortBuf}
use Rattle.dns_lexer.specs.declared.entry_tokens.NextEntryError.{NextEntryError}
use Rattle.dns_lexer.specs.declared.entry_tokens.NextEntryError.TheVariants.{BadText as NotText, ShortBuf as NoRoom}
use Rattle.std.specs.Fmt.{decimal}
use Rattle.dns_lexer.specs.declared.pieces.Fault.{Fault}
use Rattle.dns_lexer.specs.declared.pieces.Piece.{Piece}
use Rattle.dns_lexer.specs.declared.pieces.Piece.TheVariants.{Word as WordAt, Quote as QuoteAt, Comment as CommentAt, End as EndAt}
use Rattle.dns_lexer.specs.declared.splitting.Collected.{Collected}
use Rattle.dns_lexer.specs.Pieces.{Reads, between}
use Rattle.dns_lexer.specs.Splitting.{Entries, Splits}
use Rattle.dns_lexer.specs.Viable.{IsBad}

-- the bytes of each text
abbrev pub texts : {A : Type 0} → List (String A) → List (List ℕ)
texts ts = map string_bytes ts

-- the tokens of each entry
abbrev pub entries_of : {A : Type 0} → List (Vec (String A) A) → Entries
entries_of es = map (λ e. texts e.items) es

-- a token or an entry's end, which take memory
abbrev pub is_stored : Result Piece Fault → Bool
is_stored (Ok (CommentAt p)) = false
is_stored (Ok p) = true
is_stored (Err f) = false

-- a token or an entry's end comes in the text, before its error if it has one
abbrev pub StoresPiece : List ℕ → Type 0
StoresPiece text = (given : List (Result Piece Fault)) × Reads text given × (list_any is_stored given ≡ true)

-- the entries that the text splits into, or the length of its longest viable prefix; or an allocation failed, so one was made
abbrev pub IsSplitOf : {A : Type 0} → Result (Vec (Vec (String A) A) A) SplitError → List ℕ → Type 0
IsSplitOf (Ok v) text = Splits text (entries_of v.items)
IsSplitOf (Err (BadText i)) text = IsBad text i
IsSplitOf (Err ShortBuf) text = StoresPiece text

-- a piece is kept: a word or a quoted string is one more token, and an entry's end ends the entry
abbrev pub KeepsPiece : {A : Type 0} → List ℕ → Piece → Collected A → Collected A → Type 0
KeepsPiece text (WordAt p) old new = (new.found ≡ old.found) × (texts new.entry.items ≡ texts old.entry.items ++ between text p.start p.end ∷ [])
KeepsPiece text (QuoteAt p) old new = (new.found ≡ old.found) × (texts new.entry.items ≡ texts old.entry.items ++ between text p.start p.end ∷ [])
KeepsPiece text (CommentAt p) old new = new ≡ old
KeepsPiece text (EndAt p) old new = (entries_of new.found.items ≡ entries_of old.found.items ++ texts old.entry.items ∷ []) × (texts new.entry.items ≡ [])

-- all pieces of the text were stored, as these entries; or its error; or an allocation failed
abbrev pub IsKeptOf : Result (Unit {0}) SplitError → List ℕ → Entries → Type 0
IsKeptOf (Ok u) text e = Splits text e
IsKeptOf (Err (BadText i)) text e = IsBad text i
IsKeptOf (Err ShortBuf) text e = StoresPiece text

-- the text of an error
abbrev pub split_error_text : SplitError → List ℕ
split_error_text (BadText i) = codes "bad text at " ++ decimal i
split_error_text ShortBuf = codes "buffer size exceeded"

abbrev pub next_error_text : NextEntryError → List ℕ
next_error_text (NotText f) = codes "bad text at " ++ decimal f.at
next_error_text NoRoom = codes "buffer size exceeded"

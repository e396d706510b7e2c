-- The pieces of a zone file as a caller gets them, one by one.
use Rattle.std.specs.Prelude.{◌≡◌, ◌≢◌, ℕ, ◌<◌, ◌≤◌, ◌⊎◌, ◌==◌, if◌then◌else◌, Bool, not, List, [], ◌∷◌, length, Some, Result, Ok, Err}
use Rattle.dns_lexer.specs.Pieces.{IsWithin, between, AreOctets, AreItemsOf}
use Rattle.dns_lexer.specs.Splitting.{Entries, with_token, Splits}
use Rattle.dns_lexer.specs.CursorStates.{YieldsNextPiece, began_after, blank_at}
use Rattle.dns_lexer.specs.declared.pieces.Piece.{Piece as TextPiece}
use Rattle.dns_lexer.specs.declared.pieces.Piece.TheVariants.{Word as WordAt, Quote as QuoteAt, Comment as CommentAt, End as EndAt}
use Rattle.dns_lexer.specs.declared.pieces.Fault.{Fault as TextFault}
use Rattle.dns_lexer.specs.declared.cursor_state.CursorState.{CursorState as TextStanding}
use Rattle.c_calls.specs.Entries.{bit, refusal_of_wrong}
use Rattle.c_calls.specs.Reports.{number_of, ReportsFault, at_start}
use Rattle.c_calls.specs.declared.outcome.Outcome.{Outcome}
use Rattle.c_calls.specs.declared.outcome.Refusal.TheVariants.{BadCursor}
use Rattle.c_calls.specs.declared.pieces.Piece.{Piece}
use Rattle.c_calls.specs.declared.pieces.CursorState.{CursorState}

-- a flag other than 0 means that nothing is left
abbrev pub cursor_state : CursorState → TextStanding
cursor_state s = record { at = s.at; depth = s.depth; began = s.began; is_done = not (s.is_done == 0) }

abbrev pub cursor_of : TextStanding → CursorState
cursor_of s = record { at = s.at; depth = s.depth; began = s.began; is_done = bit s.is_done }

abbrev pub piece_at : ℕ → ℕ → ℕ → Bool → Piece
piece_at kind s e b = record { kind = kind; start = s; end = e; begins_blank = bit b }

-- a piece of an entry, which begins with a blank or doesn't, with the number of its kind
abbrev pub numbered_piece : TextPiece → Bool → Piece
numbered_piece (WordAt p) b = piece_at 0 p.start p.end b
numbered_piece (QuoteAt p) b = piece_at 1 p.start p.end b
numbered_piece (CommentAt p) b = piece_at 2 p.start p.end b
numbered_piece (EndAt e) b = piece_at 3 e.at e.at e.begins_blank

-- the piece is written, or the syntax error is reported and nothing is written
abbrev pub WritesPiece : Result TextPiece TextFault → Bool → Piece → Piece → ℕ → Outcome → Type 0
WritesPiece (Ok p) b before after status outcome = (status ≡ 0) × (outcome ≡ record { length = 0; place = 0 }) × (after ≡ numbered_piece p b)
WritesPiece (Err f) b before after status outcome = (status ≡ number_of (refusal_of_wrong f.wrong)) × (outcome ≡ record { length = 0; place = f.at }) × (after ≡ before)

-- the first of the pieces that are left is taken, and reported
pub record ReadsPiece (text : List ℕ) (old new : CursorState) (before after : Piece) (status : ℕ) (outcome : Outcome) : Type 0 where
  pub given : Result TextPiece TextFault
  pub takes : YieldsNextPiece text (cursor_state old) (Some given) (cursor_state new)
  pub within : IsWithin (length text) given
  pub told : WritesPiece given (blank_at text old.began) before after status outcome
  pub began : new.began ≡ began_after given old.began
  pub stands : (new.at ≤ length text) × (new.depth ≤ new.at) × (new.is_done ≤ 1)

-- a text that is done has no piece; a standing past the end, or with more open parentheses than octets before it, is rejected; and else the next piece is returned
pub record NextPiece (text : List ℕ) (old new : CursorState) (before after : Piece) (status : ℕ) (outcome : Outcome) : Type 0 where
  pub done : old.is_done ≢ 0 → (status ≡ 1) × (outcome ≡ record { length = 0; place = 0 }) × (new ≡ old) × (after ≡ before)
  pub past : old.is_done ≡ 0 → (length text < old.at) ⊎ (old.at < old.depth) → ReportsFault (at_start BadCursor) status outcome × (new ≡ old) × (after ≡ before)
  pub reads : old.is_done ≡ 0 → old.at ≤ length text → old.depth ≤ old.at → ReadsPiece text old new before after status outcome

-- what a call returns: a piece, or a status and the offset of a syntax error
abbrev pub PieceReport : Type 0
PieceReport = Result Piece (ℕ × ℕ)

abbrev pub piece_report : Bool → Result TextPiece TextFault → PieceReport
piece_report b (Ok p) = Ok (numbered_piece p b)
piece_report b (Err f) = Err (number_of (refusal_of_wrong f.wrong), f.at)

-- what calls return for these pieces, if an entry is open that began at an offset
abbrev pub piece_reports : List ℕ → ℕ → List (Result TextPiece TextFault) → List PieceReport
piece_reports text began [] = []
piece_reports text began (x ∷ given) = piece_report (blank_at text began) x ∷ piece_reports text (began_after x began) given

-- a call that found something, and what it returned
abbrev pub ReportsNext : List ℕ → CursorState → CursorState → PieceReport → Type 0
ReportsNext text old new (Ok piece) = (before : Piece) × (outcome : Outcome) × NextPiece text old new before piece 0 outcome
ReportsNext text old new (Err told) =
    (before : Piece) × (after : Piece) × (n : ℕ) × (told.0 ≢ 0) × (told.0 ≢ 1) × NextPiece text old new before after told.0 (record { length = n; place = told.1 })

-- such calls one after another, each from the standing that the one before left, until the text is done
abbrev pub PieceCalls : List ℕ → CursorState → List PieceReport → CursorState → Type 0
PieceCalls text standing [] last = (standing.is_done ≢ 0) × (standing ≡ last)
PieceCalls text standing (told ∷ more) last = (new : CursorState) × ReportsNext text standing new told × PieceCalls text new more last

-- the octets of a piece that is a word or a quoted text before the entries that follow; the end of an entry begins one
abbrev pub entry_in_pieces : List ℕ → Piece → Entries → Entries
entry_in_pieces text p found = if p.kind == 3 then [] ∷ found else (if p.kind == 2 then found else with_token (between text p.start p.end) found)

-- the words and quoted texts that are returned, cut where entries end
abbrev pub entries_in_pieces : List ℕ → List PieceReport → Entries
entries_in_pieces text [] = []
entries_in_pieces text (Ok p ∷ told) = entry_in_pieces text p (entries_in_pieces text told)
entries_in_pieces text (Err f ∷ told) = entries_in_pieces text told

-- calls from the start of a text on, until it is done, return its pieces, or its syntax error
abbrev pub PieceCallsReportPieces : Type 0
PieceCallsReportPieces = (text : List ℕ) (given : List (Result TextPiece TextFault)) (first last : CursorState) (told : List PieceReport) → AreOctets text → AreItemsOf text given → first.at ≡ 0
    → first.depth ≡ 0 → first.began ≡ 0 → first.is_done ≡ 0 → PieceCalls text first told last → told ≡ piece_reports text 0 given

-- for a text that splits they return the octets of its entries
abbrev pub PieceCallsReportTokens : Type 0
PieceCallsReportTokens = (text : List ℕ) (found : Entries) (first last : CursorState) (told : List PieceReport) → AreOctets text → Splits text found → first.at ≡ 0
    → first.depth ≡ 0 → first.began ≡ 0 → first.is_done ≡ 0 → PieceCalls text first told last → entries_in_pieces text told ≡ found

-- What calls for pieces return one after another.
use Rattle.std.proofs.Common.{◌≡◌, ◌≢◌, ◌≤◌, ℕ, zero, suc, Bool, true, ◌==◌, List, [], ◌∷◌, length, refl, sym, ap, subst, ◌∙◌, arith, Result, Ok, Err}
use Rattle.std.specs.Prelude.{map, not}
use Rattle.std.proofs.lemmas.Bool.{ne_eqb}
use Rattle.dns_lexer.specs.Pieces.{AreOctets, AreItemsOf, between, tokens_by_entry}
use Rattle.dns_lexer.specs.CursorStates.{RemainAt, RemainUnless, at_entry, began_after, blank_at}
use Rattle.dns_lexer.specs.Splitting.{Entries, Splits, with_token}
use Rattle.dns_lexer.specs.declared.pieces.Fault.{Fault as TextFault}
use Rattle.dns_lexer.specs.declared.pieces.Piece.{Piece as TextPiece}
use Rattle.dns_lexer.specs.declared.pieces.Piece.TheVariants.{Word as WordAt, Quote as QuoteAt, Comment as CommentAt, End as EndAt}
use Rattle.dns_lexer.specs.declared.pieces.Wrong.{Wrong}
use Rattle.dns_lexer.specs.declared.pieces.Wrong.TheVariants.{Closing as NoneOpen, OpenParenthesis as NotClosed, OpenQuote as NotQuoted, LoneReturn as NoFeed, BadEscape as NoEscape}
use Rattle.dns_lexer.proofs.Standings.{given_left, left_once}
use Rattle.c_calls.specs.Entries.{refusal_of_wrong}
use Rattle.c_calls.specs.Pieces.{NextPiece, ReadsPiece, WritesPiece, PieceReport, ReportsNext, PieceCalls, cursor_state, piece_reports, piece_report, entries_in_pieces}
use Rattle.c_calls.proofs.InCalls.{split_given}
use Rattle.c_calls.specs.Reports.{number_of}
use Rattle.c_calls.specs.declared.outcome.Outcome.{Outcome}
use Rattle.c_calls.specs.declared.pieces.Piece.{Piece}
use Rattle.c_calls.specs.declared.pieces.CursorState.{CursorState}

abbrev Given : Type 0
Given = List (Result TextPiece TextFault)

-- the status of a syntax error is not that of a piece
refused : (w : Wrong) → number_of (refusal_of_wrong w) ≡ 0 → ⊥
refused NoneOpen e = cc
refused NotClosed e = cc
refused (NotQuoted i) e = cc
refused NoFeed e = cc
refused NoEscape e = cc

-- a standing among the octets, and the pieces that are left
pub record Stands (text : List ℕ) (s : CursorState) (given : Given) : Type 0 where
  pub left : RemainAt text (cursor_state s) given
  pub within : s.at ≤ length text
  pub deep : s.depth ≤ s.at

done_flag : (n : ℕ) → n ≢ 0 → not (n == 0) ≡ true
done_flag n h = ap not (ne_eqb n 0 h)

-- a text that is done has no pieces left
none_left : (text : List ℕ) (s : CursorState) (given : Given) → s.is_done ≢ 0 → RemainAt text (cursor_state s) given → given ≡ []
none_left text s given h left = subst (λ t. RemainUnless t text (cursor_state s) given) (done_flag s.is_done h) left

-- a call reports the piece or the syntax error
told_ok : (b : Bool) (before piece : Piece) (outcome : Outcome) (x : Result TextPiece TextFault) → WritesPiece x b before piece 0 outcome → Ok piece ≡ piece_report b x
told_ok b before piece outcome (Ok p) t = ap Ok t.2
told_ok b before piece outcome (Err f) t = absurd (refused f.wrong (sym t.0))

told_err : (b : Bool) (before after : Piece) (status place n : ℕ) (x : Result TextPiece TextFault) → WritesPiece x b before after status (record { length = n; place = place }) → status ≢ 0
    → Err (status, place) ≡ piece_report b x
told_err b before after status place n (Ok p) t some = absurd (some t.0)
told_err b before after status place n (Err f) t some = ap (λ s. Err (s, place)) t.0 ∙ ap (λ i. Err (number_of (refusal_of_wrong f.wrong), i)) (ap (λ (o : Outcome). o.place) t.1)

is_zero : (n : ℕ) → (n ≢ 0 → ⊥) → n ≡ 0
is_zero zero h = refl
is_zero (suc n) h = absurd (h (λ e. cc))

-- a call takes the first piece, and leaves the rest
pub record Took (text : List ℕ) (s new : CursorState) (told : PieceReport) (given : Given) : Type 0 where
  pub first : Result TextPiece TextFault
  pub rest : Given
  pub is : given ≡ first ∷ rest
  pub tells : told ≡ piece_report (blank_at text s.began) first
  pub stands : Stands text new rest
  pub began : new.began ≡ began_after first s.began

took : (text : List ℕ) (s new : CursorState) (told : PieceReport) (given : Given) (before after : Piece) (status : ℕ) (outcome : Outcome) → Stands text s given
    → (r : ReadsPiece text s new before after status outcome) → told ≡ piece_report (blank_at text s.began) r.given → Took text s new told given
took text s new told given before after status outcome stands r tells = record {
  first = r.given;
  rest = r.takes.left;
  is = left_once text (cursor_state s) given (r.given ∷ r.takes.left) stands.left r.takes.before;
  tells = tells;
  stands = record { left = r.takes.after; within = r.stands.0; deep = r.stands.1 };
  began = r.began;
}

read : (text : List ℕ) (s new : CursorState) (given : Given) (before after : Piece) (status : ℕ) (outcome : Outcome) → Stands text s given → status ≢ 1 → NextPiece text s new before after status outcome
    → ReadsPiece text s new before after status outcome
read text s new given before after status outcome stands some next = next.reads (is_zero s.is_done (λ h. some ((next.done h).0))) stands.within stands.deep

takes : (text : List ℕ) (s new : CursorState) (told : PieceReport) (given : Given) → Stands text s given → ReportsNext text s new told → Took text s new told given
takes text s new (Ok piece) given stands tells =
    let r = read text s new given tells.0 piece 0 tells.1 stands (λ e. omega (arith, e)) tells.2 in
    took text s new (Ok piece) given tells.0 piece 0 tells.1 stands r (told_ok (blank_at text s.began) tells.0 piece tells.1 r.given r.told)
takes text s new (Err (status, place)) given stands tells =
    let r = read text s new given tells.0 tells.1 status (record { length = tells.2; place = place }) stands tells.4 tells.5 in
    took text s new (Err (status, place)) given tells.0 tells.1 status (record { length = tells.2; place = place }) stands r
    (told_err (blank_at text s.began) tells.0 tells.1 status place tells.2 r.given r.told tells.3)

tell_left : (text : List ℕ) (told : List PieceReport) (s last : CursorState) (given : Given) → Stands text s given → PieceCalls text s told last → told ≡ piece_reports text s.began given
tell_left text [] s last given stands calls = sym (ap (piece_reports text s.began) (none_left text s given calls.0 stands.left))
tell_left text (t ∷ told) s last given stands calls =
    let k = takes text s calls.0 t given stands calls.1 in
    ap (λ x. x ∷ told) k.tells
    ∙ ap (λ l. piece_report (blank_at text s.began) k.first ∷ l) (tell_left text told calls.0 last k.rest k.stands calls.2 ∙ ap (λ n. piece_reports text n k.rest) k.began)
    ∙ ap (piece_reports text s.began) (sym k.is)

at_start : (s : CursorState) → s.at ≡ 0 → s.depth ≡ 0 → s.began ≡ 0 → s.is_done ≡ 0 → at_entry 0 ≡ cursor_state s
at_start s a d b i =
    sym (ap (λ n. record { at = n; depth = s.depth; began = s.began; is_done = not (s.is_done == 0) }) a
    ∙ ap (λ n. record { at = 0; depth = n; began = s.began; is_done = not (s.is_done == 0) }) d
    ∙ ap (λ n. record { at = 0; depth = 0; began = n; is_done = not (s.is_done == 0) }) b
    ∙ ap (λ n. record { at = 0; depth = 0; began = 0; is_done = not (n == 0) }) i)

-- calls from the start of a text return all its pieces
pub tell_pieces : (text : List ℕ) (given : Given) (first last : CursorState) (told : List PieceReport) → AreOctets text → AreItemsOf text given → first.at ≡ 0 → first.depth ≡ 0 → first.began ≡ 0
    → first.is_done ≡ 0 → PieceCalls text first told last → told ≡ piece_reports text 0 given
tell_pieces text given first last told o g a d b i calls =
    let left : RemainAt text (cursor_state first) given = subst (λ s. RemainAt text s given) (at_start first a d b i) (given_left text given o g) in
    tell_left text told first last given (record { left = left; within = omega (arith, a); deep = omega (arith, d) }) calls ∙ ap (λ n. piece_reports text n given) b

-- so they return the entries of a text that splits
told_entries : (text : List ℕ) (began : ℕ) (found : List TextPiece) → entries_in_pieces text (piece_reports text began (map Ok found)) ≡ tokens_by_entry text found
told_entries text began [] = refl
told_entries text began (WordAt p ∷ found) = ap (with_token (between text p.start p.end)) (told_entries text began found)
told_entries text began (QuoteAt p ∷ found) = ap (with_token (between text p.start p.end)) (told_entries text began found)
told_entries text began (CommentAt p ∷ found) = told_entries text began found
told_entries text began (EndAt e ∷ found) = ap (λ l. [] ∷ l) (told_entries text e.at found)

pub tell_split : (text : List ℕ) (found : Entries) (first last : CursorState) (told : List PieceReport) → AreOctets text → Splits text found → first.at ≡ 0 → first.depth ≡ 0 → first.began ≡ 0
    → first.is_done ≡ 0 → PieceCalls text first told last → entries_in_pieces text told ≡ found
tell_split text found first last told o s a d b i calls =
    let p = split_given text found o s in
    ap (entries_in_pieces text) (tell_pieces text (map Ok p.0) first last told o p.1 a d b i calls) ∙ told_entries text 0 p.0 ∙ p.2

-- Parentheses that an entry leaves open.
use Rattle.std.proofs.Common.{◌≡◌, ℕ, ◌+◌, List, [], ◌∷◌, ◌++◌, take, drop, refl, sym, ap, subst, ◌∙◌, append-nil, inl, inr, Result, Ok, Err}
use Rattle.std.specs.Prelude.{map, encode_utf8_all}
use Rattle.std.proofs.lemmas.List.{take-append-drop}
use Rattle.dns_lexer.specs.Unclosed.{LacksClosing}
use Rattle.dns_lexer.specs.Pieces.{IsWrong, ReadsOctets, ReadsOctetsFrom, later, moved, moved_fault, moved_wrong, place_of}
use Rattle.dns_lexer.specs.declared.pieces.Fault.{Fault as TextFault}
use Rattle.dns_lexer.specs.declared.pieces.Piece.{Piece}
use Rattle.dns_lexer.specs.declared.pieces.Piece.TheVariants.{Word as WordAt, Quote as QuoteAt, Comment as CommentAt, End as EndAt}
use Rattle.dns_lexer.specs.declared.pieces.Wrong.{Wrong}
use Rattle.dns_lexer.specs.declared.pieces.Wrong.TheVariants.{Closing, OpenParenthesis, OpenQuote, LoneReturn, BadEscape}
use Rattle.dns_lexer.proofs.PieceGiven.{tail_of}
use Rattle.c_calls.specs.Entries.{stop_of, LeavesOpen}
use Rattle.c_calls.specs.declared.tokens.EntryEnd.{EntryEnd}
use Rattle.c_calls.specs.declared.tokens.EntryEnd.TheVariants.{End, Fault, Nothing}

abbrev fault_of : TextFault → List (Result Piece TextFault) → TextFault
fault_of f (Err e ∷ given) = e
fault_of f _ = f

abbrev stopped_by : TextFault → EntryEnd → TextFault
stopped_by f (Fault e) = e
stopped_by f _ = f

-- moving offsets doesn't change the kind of an error
open_back : (g : ℕ → ℕ) (w : Wrong) → moved_wrong g w ≡ OpenParenthesis → w ≡ OpenParenthesis
open_back g OpenParenthesis e = refl
open_back g Closing e = cc
open_back g (OpenQuote i) e = cc
open_back g LoneReturn e = cc
open_back g BadEscape e = cc

-- pieces alone have no syntax error
no_fault : (g : ℕ → ℕ) (at : ℕ) (alone : List (Result Piece TextFault)) (found : List Piece) (f : TextFault) → map (moved g) alone ≡ map Ok found → stop_of (later at alone) ≡ Fault f → ⊥
no_fault g at [] found f e s = cc
no_fault g at (Ok (WordAt p) ∷ alone) [] f e s = cc
no_fault g at (Ok (WordAt p) ∷ alone) (q ∷ found) f e s = no_fault g at alone found f (ap tail_of e) s
no_fault g at (Ok (QuoteAt p) ∷ alone) [] f e s = cc
no_fault g at (Ok (QuoteAt p) ∷ alone) (q ∷ found) f e s = no_fault g at alone found f (ap tail_of e) s
no_fault g at (Ok (CommentAt p) ∷ alone) [] f e s = cc
no_fault g at (Ok (CommentAt p) ∷ alone) (q ∷ found) f e s = no_fault g at alone found f (ap tail_of e) s
no_fault g at (Ok (EndAt p) ∷ alone) found f e s = cc
no_fault g at (Err k ∷ alone) [] f e s = cc
no_fault g at (Err k ∷ alone) (q ∷ found) f e s = cc

-- the syntax error that stops the first entry is the one after the pieces
same_wrong : (g : ℕ → ℕ) (at : ℕ) (alone : List (Result Piece TextFault)) (found : List Piece) (fault f : TextFault) → map (moved g) alone ≡ map Ok found ++ Err fault ∷ []
    → stop_of (later at alone) ≡ Fault f → f.wrong ≡ OpenParenthesis → fault.wrong ≡ OpenParenthesis
same_wrong g at [] [] fault f e s w = cc
same_wrong g at [] (q ∷ found) fault f e s w = cc
same_wrong g at (Ok (WordAt p) ∷ alone) [] fault f e s w = cc
same_wrong g at (Ok (WordAt p) ∷ alone) (q ∷ found) fault f e s w = same_wrong g at alone found fault f (ap tail_of e) s w
same_wrong g at (Ok (QuoteAt p) ∷ alone) [] fault f e s w = cc
same_wrong g at (Ok (QuoteAt p) ∷ alone) (q ∷ found) fault f e s w = same_wrong g at alone found fault f (ap tail_of e) s w
same_wrong g at (Ok (CommentAt p) ∷ alone) [] fault f e s w = cc
same_wrong g at (Ok (CommentAt p) ∷ alone) (q ∷ found) fault f e s w = same_wrong g at alone found fault f (ap tail_of e) s w
same_wrong g at (Ok (EndAt p) ∷ alone) found fault f e s w = cc
same_wrong g at (Err k ∷ alone) [] fault f e s w =
    let here : moved_fault (λ i. at + i) k ≡ f = ap (stopped_by f) s in
    let is : k.wrong ≡ OpenParenthesis = open_back (λ i. at + i) k.wrong (ap (λ (x : TextFault). x.wrong) here ∙ w) in
    let there : moved_fault g k ≡ fault = ap (fault_of fault) e in
    sym (ap (λ (x : TextFault). x.wrong) there) ∙ ap (moved_wrong g) is
same_wrong g at (Err k ∷ alone) (q ∷ found) fault f e s w = cc

whole_open : (text : List ℕ) (at : ℕ) (w : Wrong) → IsWrong (take at text) (drop at text) w → w ≡ OpenParenthesis → LacksClosing text
whole_open text at w h e =
    let here : IsWrong (take at text) (drop at text) OpenParenthesis = subst (IsWrong (take at text) (drop at text)) e h in
    let all : take at text ≡ text = sym (append-nil (take at text)) ∙ ap (λ l. take at text ++ l) (sym here.0) ∙ take-append-drop at text in
    subst LacksClosing all here.1

left_open : (octets : List ℕ) (at : ℕ) (alone : List (Result Piece TextFault)) (f : TextFault) → ReadsOctets octets alone → stop_of (later at alone) ≡ Fault f → f.wrong ≡ OpenParenthesis
    → LacksClosing (encode_utf8_all octets)
left_open octets at alone f (inl w) s e = elim (no_fault (place_of octets) at alone w.found f w.is s) [ ]
left_open octets at alone f (inr b) s e =
    whole_open (encode_utf8_all octets) b.fault.at b.fault.wrong b.is_fault.wrong (same_wrong (place_of octets) at alone b.found b.fault f b.is s e)

pub leaves_open : (text : List ℕ) (at : ℕ) (given : List (Result Piece TextFault)) (stop : EntryEnd) → ReadsOctetsFrom text at given → stop ≡ stop_of given → LeavesOpen text at stop
leaves_open text at given (End e last) r s = tt
leaves_open text at given Nothing r s = tt
leaves_open text at given (Fault f) r s = λ w. left_open (drop at text) at r.0 f r.1 (sym (s ∙ ap stop_of r.2)) w

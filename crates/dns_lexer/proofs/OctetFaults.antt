-- UTF-8 text and its octets as characters yield the same, with the same errors.
use Rattle.std.proofs.Common.{◌≡◌, ◌↔◌, ℕ, zero, suc, ◌<◌, ◌≤◌, true, List, [], ◌∷◌, ◌++◌, length, take, replicate, refl, sym, ap, ◌∙◌, subst, arith, append_assoc, append-nil, inl, inr, IsUtf8}
use Rattle.std.proofs.Common.{length-append, length-drop}
use Rattle.std.proofs.Math.Seq.{take-append_seam}
use Rattle.std.specs.Prelude.{map, Option, Some, None, option_and_then, Result, Ok, Err, encode_utf8_all}
use Rattle.std.proofs.lemmas.Bool.{cases_lt}
use lib.Utf8.{scalars}
use Rattle.dns_lexer.specs.declared.reader.Mode.{Mode}
use Rattle.dns_lexer.specs.declared.reader.Mode.TheVariants.{Outside}
use Rattle.dns_lexer.specs.declared.reader.Move.{Move}
use Rattle.dns_lexer.specs.declared.pieces.Piece.{Piece}
use Rattle.dns_lexer.specs.declared.pieces.Fault.{Fault}
use Rattle.dns_lexer.specs.Reader.{step}
use Rattle.dns_lexer.specs.Unclosed.{IsOpener, LacksClosing}
use Rattle.dns_lexer.specs.Pieces.{Reads, IsFault, AreItemsOf, AreOctets, tokens_by_entry, moved, moved_fault, place_of}
use Rattle.dns_lexer.specs.Run.{first_blank, run}
use Rattle.dns_lexer.proofs.Complete.{Some_same}
use Rattle.dns_lexer.proofs.Viable.{walk, walk_append}
use Rattle.dns_lexer.proofs.PieceFaults.{reads}
use Rattle.dns_lexer.proofs.PieceMoved.{octets_run}
use Rattle.dns_lexer.proofs.PieceSplit.{pieces_split}
use Rattle.dns_lexer.proofs.Agree.{octets_are_bad}
use Rattle.dns_lexer.proofs.OneCause.{one_fault}
use Rattle.dns_lexer.proofs.SettledOnce.{read_once}
use Rattle.dns_lexer.proofs.OctetsOnce.{given_run, run_given}
use Rattle.dns_lexer.proofs.Openers.{Opened, one_walked, first_opened, still_opened, opener, tail_read, not_open}
use Rattle.dns_lexer.proofs.OctetOpeners.{left_open_alike, opener_alike}

-- its octets yield what a text yields, and nothing else
pub given_alike : (text : List ℕ) → IsUtf8 text → AreOctets text → (given : List (Result Piece Fault)) → (Reads text given ↔ AreItemsOf text given)
given_alike text u octets given = (
  λ r. subst (AreItemsOf text) (read_once text (run Outside 0 0 0 (first_blank text) text) given (reads text u) r) (run_given text octets),
  λ g. subst (Reads text) (sym (given_run text given octets g)) (reads text u),
)

-- the last item
last_fault : Fault → List (Result Piece Fault) → Fault
last_fault f [] = f
last_fault f (Ok p ∷ given) = last_fault f given
last_fault f (Err g ∷ given) = g

fault_last : (e : Fault) (found : List Piece) (f : Fault) → last_fault e (map Ok found ++ Err f ∷ []) ≡ f
unfolding last_fault
fault_last e [] f = refl
fault_last e (p ∷ found) f = fault_last e found f

moved_last : (g : ℕ → ℕ) (e : Fault) (found : List Piece) (f : Fault) → last_fault e (map (moved g) (map Ok found ++ Err f ∷ [])) ≡ moved_fault g f
unfolding last_fault
moved_last g e [] f = refl
moved_last g e (p ∷ found) f = moved_last g e found f

pub octets_fault : (text : List ℕ) → IsUtf8 text → scalars text ≡ true → (f : Fault) → IsFault text f → IsFault (encode_utf8_all text) (moved_fault (place_of text) f)
octets_fault text u ok f h = go (reads text u) (reads (encode_utf8_all text) (text, (ok, refl)))
  where
    go : Reads text (run Outside 0 0 0 (first_blank text) text) → Reads (encode_utf8_all text) (run Outside 0 0 0 (first_blank (encode_utf8_all text)) (encode_utf8_all text))
        → IsFault (encode_utf8_all text) (moved_fault (place_of text) f)
    go (inl w) r = elim (h.bad.splits_not (tokens_by_entry text w.found) (pieces_split text w.found w.placed)) [ ]
    go (inr b) (inl w) = elim ((octets_are_bad text u ok f.at h.bad).splits_not (tokens_by_entry (encode_utf8_all text) w.found) (pieces_split (encode_utf8_all text) w.found w.placed)) [ ]
    go (inr b) (inr g) =
        let there : g.fault ≡ moved_fault (place_of text) b.fault =
        sym (fault_last f g.found g.fault) ∙ ap (last_fault f) (sym g.is ∙ octets_run text ∙ ap (map (moved (place_of text))) b.is) ∙ moved_last (place_of text) f b.found b.fault in
        subst (IsFault (encode_utf8_all text)) (there ∙ ap (moved_fault (place_of text)) (one_fault text b.fault f b.is_fault h)) g.is_fault

-- what is open at a depth was opened
abbrev OpenedIf : List ℕ → ℕ → Type 0
OpenedIf ys d = 0 < d → (i : ℕ) × Opened ys i

opened_then : (ys : List ℕ) (c : ℕ) (m : Mode) (d : ℕ) (v : Move) → walk Outside 0 ys ≡ Some (m, d) → step m d c ≡ Some v → OpenedIf ys d → OpenedIf (ys ++ c ∷ []) v.depth
opened_then ys c m zero v h k o p = (length (encode_utf8_all ys), first_opened ys c m zero v (length (encode_utf8_all ys)) refl h k refl p)
opened_then ys c m (suc d) v h k o p = let q = o (omega arith) in (q.0, still_opened ys c m (suc d) v q.0 h k q.1 p)

abbrev Opens : List ℕ → Type 0
Opens zs = (ys : List ℕ) (m : Mode) (d : ℕ) (p : Mode × ℕ) → walk Outside 0 ys ≡ Some (m, d) → OpenedIf ys d → walk m d zs ≡ Some p → OpenedIf (ys ++ zs) p.1

opened_more : (c : ℕ) (zs : List ℕ) (ys : List ℕ) (m : Mode) (d : ℕ) (p : Mode × ℕ) → Opens zs → walk Outside 0 ys ≡ Some (m, d) → OpenedIf ys d → (s : Option Move) → step m d c ≡ s
    → option_and_then (λ (v : Move). walk v.mode v.depth zs) s ≡ Some p → OpenedIf (ys ++ c ∷ zs) p.1
opened_more c zs ys m d p ih h o None k e = cc
opened_more c zs ys m d p ih h o (Some v) k e =
    subst (λ l. OpenedIf l p.1) (append_assoc ys (c ∷ []) zs) (ih (ys ++ c ∷ []) v.mode v.depth p (one_walked ys c m d v h k) (opened_then ys c m d v h k o) e)

opens : (zs : List ℕ) → Opens zs
opens [] ys m d p h o e = subst (λ l. OpenedIf l p.1) (sym (append-nil ys)) (subst (OpenedIf ys) (ap (λ (q : Mode × ℕ). q.1) (Some_same e)) o)
opens (c ∷ zs) ys m d p h o e = opened_more c zs ys m d p (opens zs) h o (step m d c) refl e

-- an open parenthesis was opened
walked_before : (ys : List ℕ) → LacksClosing (encode_utf8_all ys) → (p : Mode × ℕ) × (walk Outside 0 ys ≡ Some p)
walked_before ys w =
    let t = tail_read ys w in
    let tail : List ℕ = 10 ∷ replicate (suc t.0) 41 in
    go (walk Outside 0 ys) refl tail t.1 (sym (walk_append ys tail Outside 0) ∙ t.2)
  where
    go : (o : Option (Mode × ℕ)) → walk Outside 0 ys ≡ o → (zs : List ℕ) (q : Mode × ℕ) → option_and_then (λ (p : Mode × ℕ). walk p.0 p.1 zs) (walk Outside 0 ys) ≡ Some q
        → (p : Mode × ℕ) × (walk Outside 0 ys ≡ Some p)
    go None h zs q e = let none : None ≡ Some q = sym (ap (option_and_then (λ (p : Mode × ℕ). walk p.0 p.1 zs)) h) ∙ e in cc
    go (Some p) h zs q e = (p, h)

was_opened : (ys : List ℕ) → LacksClosing (encode_utf8_all ys) → (i : ℕ) × Opened ys i
was_opened ys w = let p = walked_before ys w in go p.0 p.1
  where
    go : (p : Mode × ℕ) → walk Outside 0 ys ≡ Some p → (i : ℕ) × Opened ys i
    go (m, zero) h = elim (not_open ys m 0 h (λ deep f. absurd (omega (arith, deep))) w) [ ]
    go (m, suc d) h = opens ys [] Outside 0 (m, suc d) refl (λ deep. absurd (omega (arith, deep))) h (omega arith)

-- at one offset
openers_once : (text : List ℕ) (i j : ℕ) → i ≤ length text → j ≤ length text → IsOpener text i → IsOpener text j → i ≡ j
openers_once text i j h k o p = elim (cases_lt i j) [
  | inl less ↦ elim (o.never_closed j less k p.found p.splits) [ ]
  | inr most ↦ elim (cases_lt j i) [ inl less ↦ elim (p.never_closed i less h o.found o.splits) [ ] | inr least ↦ omega arith ]
]

within_of : (text : List ℕ) (i : ℕ) → IsOpener text i → i < length text
within_of text i o = omega (arith, length-drop i text, ap length o.opens)

pub octets_opener : (text : List ℕ) → IsUtf8 text → scalars text ≡ true → LacksClosing text → (i : ℕ) → IsOpener text i → IsOpener (encode_utf8_all text) (place_of text i)
octets_opener text u ok w i o =
    let q = was_opened text ((left_open_alike text u ok).1 w) in
    let there : IsOpener (encode_utf8_all text) q.0 = opener (encode_utf8_all text) text q.0 refl ok q.1 in
    let k : ℕ = length q.1.front in
    let place : q.0 ≡ place_of text k = q.1.place ∙ ap (λ l. length (encode_utf8_all l)) (sym (ap (take k) q.1.is ∙ take-append_seam q.1.front (40 ∷ q.1.back))) in
    let room : k < length text = omega (arith, ap length q.1.is, length-append q.1.front (40 ∷ q.1.back)) in
    let here : IsOpener (encode_utf8_all text) (place_of text k) = subst (IsOpener (encode_utf8_all text)) place there in
    let same : k ≡ i = openers_once text k i (omega (arith, room)) (omega (arith, within_of text i o)) (opener_alike text u ok k room here) o in
    subst (λ n. IsOpener (encode_utf8_all text) (place_of text n)) same here

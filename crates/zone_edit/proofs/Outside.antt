-- Octets outside of the spans stay the same, and those in them are the texts of the edits.
use Rattle.std.proofs.Common.{ℕ, zero, suc, ◌≡◌, ◌≤◌, ◌+◌, ◌-◌, List, [], ◌∷◌, ◌++◌, length, take, drop, refl, sym, ap, subst, ◌∙◌, arith, length-append}
use Rattle.std.proofs.Math.Seq.{drop-append-add, drop-append_seam, take-append_seam}
use Rattle.std.proofs.lemmas.List.{append_assoc, length-drop}
use Rattle.dns_lexer.specs.Pieces.{between}
use Rattle.zone_edit.specs.declared.edit.Edit.{Edit}
use Rattle.zone_edit.specs.declared.editor.EditProgress.{EditProgress}
use Rattle.zone_edit.specs.Edits.{AreApart, EndWithin, edited_from}
use Rattle.zone_edit.specs.Chunks.{AppliesChunk, rest_edited}
use Rattle.zone_edit.specs.Outside.{inside_from, moved_from, outside_from}
use Rattle.zone_edit.specs.Tokens.{spans_of, texts_of}
use Rattle.zone_edit.proofs.Applying.{ap2}

length_take : (n : ℕ) (xs : List ℕ) → n ≤ length xs → length (take n xs) ≡ n
length_take zero xs h = refl
length_take (suc n) [] h = absurd (omega (arith, h))
length_take (suc n) (x ∷ xs) h = ap suc (length_take n xs (omega (arith, h)))

take_to : (front rest : List ℕ) (n : ℕ) → n ≡ length front → take n (front ++ rest) ≡ front
take_to front rest n is = ap (λ k. take k (front ++ rest)) is ∙ take-append_seam front rest

drop_to : (front rest : List ℕ) (n : ℕ) → n ≡ length front → drop n (front ++ rest) ≡ rest
drop_to front rest n is = ap (λ k. drop k (front ++ rest)) is ∙ drop-append_seam front rest

module _ (front text rest : List ℕ) (n a b to : ℕ) (len : length front ≡ n) (begins : a ≡ to + n) (ends : b ≡ to + n + length text) where
  before_text : take (a - to) (front ++ (text ++ rest)) ≡ front
  before_text = take_to front (text ++ rest) (a - to) (omega (arith, len, begins))

  from_text : drop (a - to) (front ++ (text ++ rest)) ≡ text ++ rest
  from_text = drop_to front (text ++ rest) (a - to) (omega (arith, len, begins))

  after_text : drop (b - to) (front ++ (text ++ rest)) ≡ rest
  after_text =
      let both : b - to ≡ length front + length text = omega (arith, len, ends) in
      ap (λ k. drop k (front ++ (text ++ rest))) both ∙ drop-append-add front (text ++ rest) (length text) ∙ drop-append_seam text rest

  the_text : between (front ++ (text ++ rest)) (a - to) (b - to) ≡ text
  the_text =
      let count : (b - to) - (a - to) ≡ length text = omega (arith, len, begins, ends) in
      ap2 (λ k l. take k l) count from_text ∙ take-append_seam text rest

left_within : {B : Type 0} (at : ℕ) (octets : List ℕ) (e : Edit B) (edits : List (Edit B)) → at ≤ e.start → e.start ≤ e.end → e.end ≤ at + length octets
    → EndWithin (at + length octets) edits → EndWithin (e.end + length (drop (e.end - at) octets)) edits
left_within at octets e edits a b c h =
    let same : at + length octets ≡ e.end + length (drop (e.end - at) octets) = omega (arith, a, b, c, length-drop (e.end - at) octets) in
    subst (λ n. EndWithin n edits) same h

pub outside_same : {B : Type 0} (at to : ℕ) (edits : List (Edit B)) (octets : List ℕ) → AreApart at edits → EndWithin (at + length octets) edits
    → outside_from to (moved_from at to edits) (edited_from at edits octets) ≡ outside_from at (spans_of edits) octets
outside_same at to [] octets o w = refl
outside_same at to (e ∷ edits) octets o w =
    let n = e.start - at in
    let front = take n octets in
    let text = e.text.items in
    let rest = edited_from e.end edits (drop (e.end - at) octets) in
    let next = to + n + length text in
    let len : length front ≡ n = length_take n octets (omega (arith, o.0.0, o.0.1, w.0)) in
    let within = left_within at octets e edits o.0.0 o.0.1 w.0 w.1 in
    ap2 (λ before after. before ++ outside_from next (moved_from e.end next edits) after)
    (before_text front text rest n (to + n) next to len refl refl) (after_text front text rest n (to + n) next to len refl refl)
    ∙ ap (λ l. front ++ l) (outside_same e.end next edits (drop (e.end - at) octets) o.1 within)

pub inside_texts : {B : Type 0} (at to : ℕ) (edits : List (Edit B)) (octets : List ℕ) → AreApart at edits → EndWithin (at + length octets) edits
    → inside_from to (moved_from at to edits) (edited_from at edits octets) ≡ texts_of edits
inside_texts at to [] octets o w = refl
inside_texts at to (e ∷ edits) octets o w =
    let n = e.start - at in
    let front = take n octets in
    let text = e.text.items in
    let rest = edited_from e.end edits (drop (e.end - at) octets) in
    let next = to + n + length text in
    let len : length front ≡ n = length_take n octets (omega (arith, o.0.0, o.0.1, w.0)) in
    let within = left_within at octets e edits o.0.0 o.0.1 w.0 w.1 in
    ap2 (λ x after. x ∷ inside_from next (moved_from e.end next edits) after)
    (the_text front text rest n (to + n) next to len refl refl) (after_text front text rest n (to + n) next to len refl refl)
    ∙ ap (λ l. text ∷ l) (inside_texts e.end next edits (drop (e.end - at) octets) o.1 within)

-- two chunks, one after another
pub chunks_joined : {B : Type 0} (edits : List (Edit B)) (a b c : EditProgress) (x y front middle to : List ℕ)
    → AppliesChunk edits a x front middle b → AppliesChunk edits b y middle to c → AppliesChunk edits a (x ++ y) front to c
chunks_joined edits a b c x y front middle to p q = record {
  next = omega (arith, p.next, q.next, length-append x y);
  made = λ rest. q.made rest ∙ p.made (y ++ rest) ∙ ap (λ l. front ++ rest_edited edits a l) (sym (append_assoc x y rest));
  extends = (p.extends.0 ++ q.extends.0, q.extends.1 ∙ ap (λ l. l ++ q.extends.0) p.extends.1 ∙ append_assoc front p.extends.0 q.extends.0);
  reached = q.reached;
}

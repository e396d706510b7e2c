-- Edits that are applied to a chunk, one after another.
use Rattle.std.proofs.Common.{ℕ, zero, suc, ◌≡◌, ◌<◌, ◌≤◌, ◌+◌, ◌-◌, List, [], ◌∷◌, ◌++◌, length, take, drop, refl, sym, ap, subst, ◌∙◌, arith, append-nil}
use Rattle.std.specs.Prelude.{Result, Ok, Err, OnErr}
use Rattle.std.proofs.Math.Seq.{drop-append-add, take-append-add}
use Rattle.std.proofs.lemmas.List.{append_assoc, drop-append-le, drop-drop, length-drop, take-append-le, take_rest}
use Rattle.dns_octets.specs.Appending.{Extends}
use Rattle.zone_edit.specs.declared.edit.Edit.{Edit}
use Rattle.zone_edit.specs.declared.editor.EditProgress.{EditProgress}
use Rattle.zone_edit.specs.Edits.{AreApart, edited_from, edit_texts}
use Rattle.zone_edit.specs.Chunks.{AppliesChunk, IsReached, rest_edited}
use Rattle.zone_edit.proofs.Opening.{ordered_gives}

pub ap2 : {X Y Z : Type 0} (f : X → Y → Z) {x y : X} {u v : Y} → x ≡ y → u ≡ v → f x u ≡ f y v
ap2 f {x} {y} {u} {v} p q = ap (λ w. f w u) p ∙ ap (f y) q

abbrev pub none : List ℕ
none = []

pub drop_nothing : (n : ℕ) → drop n none ≡ none
drop_nothing zero = refl
drop_nothing (suc n) = refl

take_nothing : (n : ℕ) → take n none ≡ none
take_nothing zero = refl
take_nothing (suc n) = refl

pub edited_nothing : {B : Type 0} (at : ℕ) (edits : List (Edit B)) → edited_from at edits [] ≡ edit_texts edits
edited_nothing at [] = refl
edited_nothing at (e ∷ edits) =
    ap2 (λ front rest. front ++ (e.text.items ++ edited_from e.end edits rest)) (take_nothing (e.start - at)) (drop_nothing (e.end - at))
    ∙ ap (λ l. e.text.items ++ l) (edited_nothing e.end edits)

-- octets before all spans are copied
pub edited_before : {B : Type 0} (at end : ℕ) (edits : List (Edit B)) (front rest : List ℕ) → at + length front ≡ end → AreApart end edits
    → edited_from at edits (front ++ rest) ≡ front ++ edited_from end edits rest
edited_before at end [] front rest is ordered = refl
edited_before at end (e ∷ edits) front rest is ordered =
    let starts : e.start - at ≡ length front + (e.start - end) = omega (arith, is, ordered.0.0) in
    let ends : e.end - at ≡ length front + (e.end - end) = omega (arith, is, ordered.0.0, ordered.0.1) in
    ap2 (λ before after. before ++ (e.text.items ++ edited_from e.end edits after))
    (ap (λ n. take n (front ++ rest)) starts ∙ take-append-add front rest (e.start - end))
    (ap (λ n. drop n (front ++ rest)) ends ∙ drop-append-add front rest (e.end - end))
    ∙ append_assoc front (take (e.start - end) rest) (e.text.items ++ edited_from e.end edits (drop (e.end - end) rest))

-- one edit
one_applied : {B : Type 0} (at from : ℕ) (e : Edit B) (edits : List (Edit B)) (chunk rest : List ℕ)
    → at ≤ from → from ≤ e.start → e.start ≤ e.end → e.start - at ≤ length chunk
    → edited_from from (e ∷ edits) (drop (from - at) (chunk ++ rest))
    ≡ take ((e.start - at) - (from - at)) (drop (from - at) chunk) ++ (e.text.items ++ edited_from e.end edits (drop (e.end - at) (chunk ++ rest)))
one_applied at from e edits chunk rest a b c d =
    let f = from - at in
    let within : f ≤ length chunk = omega (arith, a, b, d) in
    let count : e.start - from ≡ (e.start - at) - f = omega (arith, a, b) in
    let room : (e.start - at) - f ≤ length (drop f chunk) = omega (arith, a, b, d, within, length-drop f chunk) in
    let ends : f + (e.end - from) ≡ e.end - at = omega (arith, a, b, c) in
    ap2 (λ before after. before ++ (e.text.items ++ edited_from e.end edits after))
    (ap2 (λ n l. take n l) count (drop-append-le f chunk rest within) ∙ take-append-le ((e.start - at) - f) (drop f chunk) rest room)
    (drop-drop (e.end - from) f (chunk ++ rest) ∙ ap (λ n. drop n (chunk ++ rest)) ends)

-- what holds holds after an error
pub when_err : {X E : Type 0} (P : Type 0) (r : Result X E) → P → OnErr r P
when_err P (Ok x) p = tt
when_err P (Err e) p = p

-- nothing was appended
pub extends_same : (front to new : List ℕ) → Extends front to → new ≡ to → Extends front new
extends_same front to new e is = (e.0, is ∙ e.1)

-- what was appended of a chunk whose octets before an offset were decided, and what is still to be appended
pub record AppliesPart {B : Type 0} (edits : List (Edit B)) (r : EditProgress) (chunk front to : List ℕ) (done from : ℕ) : Type 0 where
  pub made : (rest : List ℕ) → to ++ edited_from from (drop done edits) (drop (from - r.at) (chunk ++ rest)) ≡ front ++ rest_edited edits r (chunk ++ rest)
  pub extends : Extends front to
  pub begun : r.at ≤ from
  pub counted : done ≤ length edits
  pub ordered : AreApart from (drop done edits)

module _ {B : Type 0} (edits : List (Edit B)) (r : EditProgress) (chunk front to : List ℕ) (done from : ℕ) (p : AppliesPart edits r chunk front to done from) where
  -- one more edit
  pub part_next : (e : Edit B) → drop done edits ≡ e ∷ drop (done + 1) edits → done < length edits → e.start < r.at + length chunk
      → (part all : List ℕ) → part ≡ take ((e.start - r.at) - (from - r.at)) (drop (from - r.at) chunk) → all ≡ (to ++ part) ++ e.text.items
      → AppliesPart edits r chunk front all (done + 1) e.end
  part_next e next lt begins part all is made =
      let o = ordered_gives edits done e next from p.ordered in
      let d : e.start - r.at ≤ length chunk = omega (arith, begins) in
      let more = drop (done + 1) edits in
      let joined : all ≡ to ++ (part ++ e.text.items) = made ∙ append_assoc to part e.text.items in
      record {
        made = λ rest.
            ap (λ l. l ++ edited_from e.end more (drop (e.end - r.at) (chunk ++ rest))) joined
            ∙ append_assoc to (part ++ e.text.items) (edited_from e.end more (drop (e.end - r.at) (chunk ++ rest)))
            ∙ ap (λ l. to ++ l)
            (append_assoc part e.text.items (edited_from e.end more (drop (e.end - r.at) (chunk ++ rest)))
            ∙ ap (λ l. l ++ (e.text.items ++ edited_from e.end more (drop (e.end - r.at) (chunk ++ rest)))) is
            ∙ sym (one_applied r.at from e more chunk rest p.begun o.0.0 o.0.1 d)
            ∙ ap (λ l. edited_from from l (drop (from - r.at) (chunk ++ rest))) (sym next))
            ∙ p.made rest;
        extends = (p.extends.0 ++ (part ++ e.text.items), joined ∙ ap (λ l. l ++ (part ++ e.text.items)) p.extends.1 ∙ append_assoc front p.extends.0 (part ++ e.text.items));
        begun = omega (arith, p.begun, o.0.0, o.0.1);
        counted = omega (arith, lt);
        ordered = o.1;
      }

  -- the rest of the chunk is copied
  pub part_copied : (new : List ℕ) (end : ℕ) → end ≡ r.at + length chunk → from < end → AreApart end (drop done edits) → new ≡ to ++ drop (from - r.at) chunk
      → AppliesChunk edits r chunk front new (record { done = done; at = end; from = end })
  part_copied new end is lt ordered made =
      let c = drop (from - r.at) chunk in
      let within : from - r.at ≤ length chunk = omega (arith, p.begun, lt, is) in
      let ends : from + length c ≡ end = omega (arith, p.begun, lt, is, length-drop (from - r.at) chunk) in
      let zeroth : end - end ≡ 0 = omega arith in
      let back : end ≤ end = omega arith in
      record {
        next = is;
        made = λ rest.
            ap (λ l. l ++ edited_from end (drop done edits) (drop (end - end) rest)) made
            ∙ ap (λ n. (to ++ c) ++ edited_from end (drop done edits) (drop n rest)) zeroth
            ∙ append_assoc to c (edited_from end (drop done edits) rest)
            ∙ ap (λ l. to ++ l) (sym (edited_before from end (drop done edits) c rest ends ordered)
            ∙ ap (edited_from from (drop done edits)) (sym (drop-append-le (from - r.at) chunk rest within)))
            ∙ p.made rest;
        extends = (p.extends.0 ++ c, made ∙ ap (λ l. l ++ c) p.extends.1 ∙ append_assoc front p.extends.0 c);
        reached = record { begun = back; counted = p.counted; ordered = ordered };
      }

  -- a span continues after the chunk, or ends with it
  pub part_passed : (end : ℕ) → end ≡ r.at + length chunk → end ≤ from → AppliesChunk edits r chunk front to (record { done = done; at = end; from = from })
  part_passed end is le =
      let ends : from - r.at ≡ length chunk + (from - end) = omega (arith, p.begun, le, is) in
      record {
        next = is;
        made = λ rest.
            ap (λ l. to ++ edited_from from (drop done edits) l)
            (sym (ap (λ n. drop n (chunk ++ rest)) ends ∙ drop-append-add chunk rest (from - end)))
            ∙ p.made rest;
        extends = p.extends;
        reached = record { begun = le; counted = p.counted; ordered = p.ordered };
      }

-- nothing was applied yet
pub part_first : {B : Type 0} (edits : List (Edit B)) (r : EditProgress) (chunk front : List ℕ) → IsReached edits r → AppliesPart edits r chunk front front r.done r.from
part_first edits r chunk front h = record {
  made = λ rest. refl;
  extends = ([], sym (append-nil front));
  begun = h.begun;
  counted = h.counted;
  ordered = h.ordered;
}

-- an edit that doesn't begin before an offset, and those after it
pub begin_after : {B : Type 0} (at end : ℕ) (edits : List (Edit B)) (e : Edit B) (more : List (Edit B)) → edits ≡ e ∷ more → end ≤ e.start → AreApart at edits → AreApart end edits
begin_after at end edits e more is le ordered =
    let h = subst (AreApart at) is ordered in
    subst (AreApart end) (sym is) ((le, h.0.1), h.1)

pub none_left : {B : Type 0} (end : ℕ) (edits : List (Edit B)) → edits ≡ [] → AreApart end edits
none_left end edits is = subst (AreApart end) (sym is) tt

-- what is still to be appended at the end of the text
pub rest_nothing : {B : Type 0} (edits : List (Edit B)) (r : EditProgress) → rest_edited edits r [] ≡ edit_texts (drop r.done edits)
rest_nothing edits r = ap (edited_from r.from (drop r.done edits)) (drop_nothing (r.from - r.at)) ∙ edited_nothing r.from (drop r.done edits)

pub left_made : {B : Type 0} (edits : List (Edit B)) (r : EditProgress) (old new : List ℕ) → new ≡ old ++ edit_texts (take (length edits - r.done) (drop r.done edits))
    → new ≡ old ++ rest_edited edits r []
left_made edits r old new is = is ∙ ap (λ l. old ++ edit_texts l) (take_rest edits r.done) ∙ ap (λ l. old ++ l) (sym (rest_nothing edits r))

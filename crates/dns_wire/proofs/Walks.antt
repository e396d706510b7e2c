-- Labels that are written into a text one after another.
use Rattle.std.proofs.Common.{◌≡◌, ℕ, ◌+◌, ◌-◌, ◌*◌, ◌<◌, ◌≤◌, Bool, true, false, List, [], ◌∷◌, ◌++◌, length, take, refl, sym, ap, ◌∙◌, arith, append_assoc, append-nil, length-append}
use Rattle.std.specs.Prelude.{IsTrue, ◌↔◌, encode_utf8_all, Result, Ok, Err, IsOk, OnOk}
use Rattle.std.specs.Str.{IsAscii}
use Rattle.std.proofs.lemmas.List.Elements.{All-head}
use Rattle.std.proofs.lemmas.Grind.{common_steps}
use Rattle.std.proofs.lemmas.Str.{IsAscii-append, IsAscii-take, encodes-IsAscii}
use Rattle.std.proofs.lemmas.List.{length-take-le, take-take}
use Rattle.dns_octets.specs.declared.error.ShortBuf.{ShortBuf}
use Rattle.std.proofs.lemmas.Str.Ascii.{IsAscii-from_all, IsAscii-nil}
use Rattle.std.proofs.Math.Seq.{take-append_seam}
use Rattle.dns_wire.specs.Form.{form_text, next_text, name_text}
use Rattle.dns_wire.specs.Opened.{snoc_same}
use Rattle.dns_wire.specs.Printed.{joined_by, dotted_by, label_text, without_root}
use Rattle.dns_wire.specs.Labelled.{Labelled}
use Rattle.dns_wire.specs.Wire.{wire, wire_length, IsName, EndsInRoot, HasNoRoot}
use Rattle.dns_wire.specs.declared.display.Form.{Form}
use Rattle.dns_wire.specs.declared.display.Form.TheVariants.{Label, Zone}
use Rattle.dns_wire.proofs.Texts.{joined_push, without_root_push, none_left_out, dotted_joined, undotted_joined}
use Rattle.dns_wire.proofs.Wires.{wire_length_append, nil_not, labelled_is}

-- the labels that were written, before the others: their characters, and whether the last is the root
pub record Walked (form : Form) (all rest : List (List ℕ)) (first root : Bool) (put : List ℕ) (end : ℕ) : Type 0 where
  pub front : List (List ℕ)
  pub spelled : all ≡ front ++ rest
  pub none_yet : first ≡ true → front ≡ []
  pub some_yet : first ≡ false → 0 < length front
  pub is : put ≡ joined_by (form_text form) front
  pub ascii : IsAscii put
  pub ends : IsTrue root ↔ EndsInRoot front
  pub room : end ≤ 4 * wire_length front

pub walk_start : (form : Form) (labels : List (List ℕ)) → Walked form labels labels true false [] 0
walk_start form labels = record {
  front = [];
  spelled = refl;
  none_yet = λ _. refl;
  some_yet = λ e. absurd cc;
  is = refl;
  ascii = IsAscii-nil;
  ends = ((λ e. absurd cc), (λ e. absurd (nil_not e.0 [] e.1)));
  room = omega arith;
}

pub dot_ascii : IsAscii (46 ∷ [])
dot_ascii = IsAscii-from_all (46 ∷ []) (Prim.grind (arith, common_steps))

next_ascii : (form : Form) (first : Bool) (label : List ℕ) → IsAscii (form_text form label) → IsAscii (next_text form first label)
next_ascii form true label h = h
next_ascii form false label h = IsAscii-append (46 ∷ []) (form_text form label) dot_ascii h

joined_next : (form : Form) (first : Bool) (front : List (List ℕ)) (label : List ℕ) → (first ≡ true → front ≡ []) → (first ≡ false → 0 < length front)
    → joined_by (form_text form) front ++ next_text form first label ≡ joined_by (form_text form) (front ++ label ∷ [])
joined_next form true front label none some = rw (none refl) refl
joined_next form false front label none some = sym (joined_push (form_text form) front label (some refl))

-- one label more
pub walk_more : (form : Form) (all rest next : List (List ℕ)) (label : List ℕ) (first root root' : Bool) (put put' : List ℕ) (end end' : ℕ)
    → Walked form all rest first root put end → rest ≡ label ∷ next → put' ≡ put ++ next_text form first label
    → IsAscii (form_text form label) → IsTrue root' ↔ (label ≡ []) → end' ≤ end + 4 * length label + 1
    → Walked form all next false root' put' end'
walk_more form all rest next label first root root' put put' end end' w left is ascii ends room = record {
  front = w.front ++ label ∷ [];
  spelled = w.spelled ∙ ap (λ r. w.front ++ r) left ∙ sym (append_assoc w.front (label ∷ []) next);
  none_yet = λ e. absurd cc;
  some_yet = λ _. omega (arith, length-append w.front (label ∷ []));
  is = is ∙ ap (λ t. t ++ next_text form first label) w.is ∙ joined_next form first w.front label w.none_yet w.some_yet;
  ascii = rw is (IsAscii-append put (next_text form first label) w.ascii (next_ascii form first label ascii));
  ends = ((λ e. (w.front, ap (λ l. w.front ++ l ∷ []) (ends.0 e))), (λ e. ends.1 (snoc_same w.front e.0 label [] e.1).1));
  room = omega (arith, room, w.room, wire_length_append w.front (label ∷ []));
}

-- there is room for it
pub walk_room : (form : Form) (all rest next : List (List ℕ)) (label : List ℕ) (first root : Bool) (put : List ℕ) (end room : ℕ)
    → Walked form all rest first root put end → rest ≡ label ∷ next → 4 * wire_length all ≤ room → end + 4 * length label + 1 ≤ room
walk_room form all rest next label first root put end room w left fits =
    let e : all ≡ w.front ++ (label ∷ next) = w.spelled ∙ ap (λ r. w.front ++ r) left in
    omega (arith, w.room, ap wire_length e, wire_length_append w.front (label ∷ next), wire_length_append (label ∷ []) next)

-- once none remains, all were written
pub walk_ended : (form : Form) (all rest : List (List ℕ)) (first root : Bool) (put : List ℕ) (end : ℕ) → Walked form all rest first root put end → rest ≡ []
    → (put ≡ joined_by (form_text form) all) × (IsTrue root ↔ EndsInRoot all)
walk_ended form all rest first root put end w none =
    let e : all ≡ w.front = w.spelled ∙ ap (λ r. w.front ++ r) none ∙ append-nil w.front in
    (rw e w.is, rw e w.ends)

-- the root prints nothing itself
nothing : (form : Form) → form_text form [] ≡ []
nothing Label = refl
nothing Zone = refl

-- after other labels the root is a dot
rooted : (form : Form) (front : List (List ℕ)) → 0 < length front → joined_by (form_text form) (front ++ [] ∷ []) ≡ joined_by (form_text form) front ++ 46 ∷ []
rooted form front h =
    joined_push (form_text form) front [] h ∙ ap (λ t. joined_by (form_text form) front ++ 46 ∷ t) (nothing form)

lone_of : (form : Form) (front labels : List (List ℕ)) → labels ≡ front ++ [] ∷ [] → joined_by (form_text form) labels ≡ [] → labels ≡ [] ∷ []
lone_of form [] labels is h = is
lone_of form (l ∷ front) labels is h =
    let e : joined_by (form_text form) (l ∷ front) ++ 46 ∷ [] ≡ [] = sym (rooted form (l ∷ front) (omega arith)) ∙ ap (joined_by (form_text form)) (sym is) ∙ h in
    absurd (omega (arith, ap length e, length-append (joined_by (form_text form) (l ∷ front)) (46 ∷ [])))

-- a name that ends in the root and whose labels have no characters is the root, and prints as a dot
pub root_text : (form : Form) (dot : Bool) (labels : List (List ℕ)) → EndsInRoot labels → joined_by (form_text form) labels ≡ [] → 46 ∷ [] ≡ name_text form dot labels
root_text form true labels e h = rw (lone_of form e.0 labels e.1 h) refl
root_text form false labels e h = rw (lone_of form e.0 labels e.1 h) refl

-- no labels, or the root alone, have no characters
joined_none : (form : Form) (labels : List (List ℕ)) → labels ≡ [] ∷ [] → joined_by (form_text form) labels ≡ []
joined_none form labels e = rw e (nothing form)

-- with the dot of the root
pub dotted_whole : (form : Form) (labels : List (List ℕ)) → (labels ≡ [] ∷ [] → ⊥) → joined_by (form_text form) labels ≡ name_text form true labels
dotted_whole form labels h = sym (dotted_joined (form_text form) labels h)

-- without it: the dot at the end is dropped
undotted_of : (form : Form) (front labels : List (List ℕ)) (put : List ℕ) → labels ≡ front ++ [] ∷ [] → put ≡ joined_by (form_text form) labels
    → (labels ≡ [] ∷ [] → ⊥) → take (length put - 1) put ≡ name_text form false labels
undotted_of form [] labels put e is some = absurd (some e)
undotted_of form (l ∷ front) labels put e is some =
    let text = joined_by (form_text form) (l ∷ front) in
    let p : put ≡ text ++ 46 ∷ [] = is ∙ ap (joined_by (form_text form)) e ∙ rooted form (l ∷ front) (omega arith) in
    let n : length put - 1 ≡ length text = omega (arith, ap length p, length-append text (46 ∷ [])) in
    let w : without_root labels ≡ l ∷ front = ap without_root e ∙ without_root_push (l ∷ front) [] ∙ append-nil (l ∷ front) in
    rw (n, p) (take-append_seam text (46 ∷ []) ∙ sym (undotted_joined (form_text form) labels some ∙ ap (joined_by (form_text form)) w))

pub undotted_front : (form : Form) (labels : List (List ℕ)) (put : List ℕ) → EndsInRoot labels → put ≡ joined_by (form_text form) labels
    → (labels ≡ [] ∷ [] → ⊥) → take (length put - 1) put ≡ name_text form false labels
undotted_front form labels put e is some = undotted_of form e.0 labels put e.1 is some

-- if no root ends the labels, nothing is dropped
pub undotted_whole : (form : Form) (labels : List (List ℕ)) → (EndsInRoot labels → ⊥) → joined_by (form_text form) labels ≡ name_text form false labels
undotted_whole form labels h =
    sym (undotted_joined (form_text form) labels (λ e. h ([], e)) ∙ ap (joined_by (form_text form)) (none_left_out labels h))

-- a name without root prints alike with a dot and without
pub relative_text : (labels : List (List ℕ)) → HasNoRoot labels → dotted_by label_text labels ≡ joined_by label_text labels
relative_text labels plain = dotted_joined label_text labels (lone labels plain)
  where
    lone : (labels : List (List ℕ)) → HasNoRoot labels → labels ≡ [] ∷ [] → ⊥
    lone [] plain e = cc
    lone (l ∷ ls) plain e =
        let some : 0 < length l = All-head (λ label. 0 < length label) l ls plain in
        let none : l ≡ [] = cc in
        omega (arith, ap length none)

-- what is printed, if no root ends the labels
pub unrooted_text : (form : Form) (dot : Bool) (labels : List (List ℕ)) → (EndsInRoot labels → ⊥) → joined_by (form_text form) labels ≡ name_text form dot labels
unrooted_text form true labels h = dotted_whole form labels (λ e. h ([], e))
unrooted_text form false labels h = undotted_whole form labels h

-- characters were put, so the labels are more than the root
some_put : (form : Form) (labels : List (List ℕ)) (text : List ℕ) (end : ℕ) → take end text ≡ joined_by (form_text form) labels → end ≤ length text
    → (end ≡ 0 → ⊥) → labels ≡ [] ∷ [] → ⊥
some_put form labels text end is fits some e =
    some (sym (length-take-le end text fits) ∙ ap length (is ∙ joined_none form labels e))

pub rooted_text : (form : Form) (dot : Bool) (labels : List (List ℕ)) (text : List ℕ) (end : ℕ) → dot ≡ true → take end text ≡ joined_by (form_text form) labels
    → end ≤ length text → (end ≡ 0 → ⊥) → joined_by (form_text form) labels ≡ name_text form dot labels
rooted_text form dot labels text end with_dot is fits some =
    dotted_whole form labels (some_put form labels text end is fits some) ∙ ap (λ d. name_text form d labels) (sym with_dot)

pub cut_text : (form : Form) (dot : Bool) (labels : List (List ℕ)) (text : List ℕ) (end : ℕ) → dot ≡ false → take end text ≡ joined_by (form_text form) labels
    → end ≤ length text → (end ≡ 0 → ⊥) → EndsInRoot labels → take (end - 1) text ≡ name_text form dot labels
cut_text form dot labels text end no_dot is fits some root =
    let n : length (take end text) ≡ end = length-take-le end text fits in
    let t : take (end - 1) (take end text) ≡ take (end - 1) text = take-take (end - 1) end text (omega arith) in
    sym t ∙ ap (λ k. take (k - 1) (take end text)) (sym n) ∙ undotted_front form labels (take end text) root is (some_put form labels text end is fits some)
    ∙ ap (λ d. name_text form d labels) (sym no_dot)

pub cut_ascii : (text : List ℕ) (end : ℕ) → IsAscii (take end text) → IsAscii (take (end - 1) text)
cut_ascii text end h = rw (← take-take (end - 1) end text (omega arith)) (IsAscii-take (take end text) (end - 1) h)

-- characters that are none
pub put_none : (text want : List ℕ) (end : ℕ) → end ≡ 0 → take end text ≡ want → want ≡ []
put_none text want end e is = sym is ∙ ap (λ n. take n text) e

-- ASCII as bytes
pub as_bytes : (shown put want : List ℕ) → shown ≡ put → put ≡ want → IsAscii put → shown ≡ encode_utf8_all want
as_bytes shown put want e is ascii = e ∙ is ∙ sym (encodes-IsAscii want (rw (← is) ascii))

pub at_ok : {T E P : Type 0} (r : Result T E) → OnOk r P → IsOk r → P
at_ok (Ok x) p ok = p
at_ok (Err e) p ok = absurd cc

-- the labels of a name whose wire format was put into an array
pub composed : (labels : List (List ℕ)) (none octets slice : List ℕ) (r : Result (Unit {0}) ShortBuf) (p : Labelled slice)
    → OnOk r (octets ≡ none ++ wire labels) → (wire_length labels ≤ 255 - length none → IsOk r) → none ≡ [] → slice ≡ octets → IsName labels → p.0 ≡ labels
composed labels none octets slice r p put fits empty same name =
    let ok : IsOk r = fits (omega (arith, name.fits, ap length empty)) in
    labelled_is slice p labels (same ∙ at_ok r put ok ∙ ap (λ x. x ++ wire labels) empty)

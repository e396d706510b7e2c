-- Labels removed from the octets of a name, at either end.
use Rattle.std.proofs.Common.{◌≡◌, ℕ, ◌+◌, ◌<◌, ◌≤◌, List, [], ◌∷◌, ◌++◌, length, take, refl, sym, ap, ◌∙◌, arith, length-append, append-nil, eqb-true, drop, length-drop, drop-cons, add-one, suc}
use Rattle.std.proofs.Common.{get_or, Option, Some, None}
use Rattle.std.specs.Iterator.{YieldsFirstBy}
use Rattle.std.specs.Prelude.{true, false, ◌==◌}
use Rattle.std.proofs.Math.Seq.{take-append_seam}
use Rattle.std.proofs.lemmas.Grind.{common_steps}
use Rattle.dns_wire.specs.Wire.{wire, wire_label}
use Rattle.dns_wire.specs.Labelled.{Labelled, wire_same, label_same}
use Rattle.dns_wire.proofs.Wires.{wire_append, wire_nil}

-- if a label begins the octets, the others follow it
pub labels_first : (octets rest label : List ℕ) (p : Labelled octets) (q : Labelled rest)
    → octets ≡ wire_label label ++ rest → p.0 ≡ label ∷ q.0
labels_first octets rest label p q h =
    wire_same p.0 (label ∷ q.0) (sym p.1 ∙ h ∙ ap (λ r. wire_label label ++ r) q.1)

pub labelled_rest : (labels : List (List ℕ)) (label rest : List ℕ) → wire labels ≡ wire_label label ++ rest → Labelled rest
labelled_rest [] label rest h = let z : ⊥ = cc in absurd z
labelled_rest (l ∷ ls) label rest h = (ls, sym (label_same l label (wire ls) rest h).1)

-- the last label of a list is searched: the offset of the first that remains
pub record Seeks (all left : List (List ℕ)) (place : ℕ) : Type 0 where
  pub front : List (List ℕ)
  pub spelled : all ≡ front ++ left
  pub at : place ≡ length (wire front)
  pub some : left ≡ [] → all ≡ []

pub seeks_first : (all left : List (List ℕ)) → left ≡ all → Seeks all left 0
seeks_first all left e = record { front = []; spelled = sym e; at = refl; some = λ h. sym e ∙ h }

pub seeks_more : (all left next : List (List ℕ)) (label : List ℕ) (place : ℕ) → Seeks all left place → left ≡ label ∷ next
    → (next ≡ [] → ⊥) → Seeks all next (place + (length label + 1))
seeks_more all left next label place s h some = record {
  front = s.front ++ label ∷ [];
  spelled = s.spelled ∙ ap (λ x. s.front ++ x) h ∙ grind (arith, common_steps);
  at = omega (arith, s.at, ap length (wire_append s.front (label ∷ [])), length-append (wire s.front) (wire (label ∷ [])), ap length (append-nil label), length-append label []);
  some = λ e. absurd (some e);
}

pub seeks_fits : (all left next : List (List ℕ)) (label octets : List ℕ) (place : ℕ) → Seeks all left place → left ≡ label ∷ next
    → octets ≡ wire all → place + (length label + 1) ≤ length octets
seeks_fits all left next label octets place s h is =
    let e : wire all ≡ wire s.front ++ wire left = ap wire s.spelled ∙ wire_append s.front left in
    let n : length octets ≡ length (wire s.front ++ wire left) = ap length (is ∙ e) in
    let m : length (wire left) ≡ length (wire (label ∷ next)) = ap (λ x. length (wire x)) h in
    omega (arith, s.at, length-append (wire s.front) (wire left), length-append label (wire next))

pub seeks_done : (all left next : List (List ℕ)) (label : List ℕ) (place : ℕ) (s : Seeks all left place) → left ≡ label ∷ next → next ≡ []
    → all ≡ s.front ++ label ∷ []
seeks_done all left next label place s h e = s.spelled ∙ ap (λ x. s.front ++ x) (h ∙ ap (λ x. label ∷ x) e)

pub seeks_take : (all left : List (List ℕ)) (octets : List ℕ) (place : ℕ) (s : Seeks all left place) → octets ≡ wire all
    → take place octets ≡ wire s.front
seeks_take all left octets place s is =
    let e : octets ≡ wire s.front ++ wire left = is ∙ ap wire s.spelled ∙ wire_append s.front left in
    rw (e, s.at) (take-append_seam (wire s.front) (wire left))

pub none_left : (labels : List (List ℕ)) (octets : List ℕ) → octets ≡ wire labels → true ≡ (length octets == 0) → labels ≡ []
none_left labels [] is h = wire_nil labels (sym is)
none_left labels (x ∷ octets) is h = absurd (omega (arith, eqb-true (suc (length octets)) 0 (sym h)))

pub some_left : (labels : List (List ℕ)) (octets : List ℕ) → octets ≡ wire labels → false ≡ (length octets == 0) → labels ≡ [] → ⊥
some_left [] octets is h e = let z : ⊥ = (let n : length octets ≡ 0 = ap length is in let t : false ≡ (0 == 0) = rw n at h in cc) in z
some_left (l ∷ ls) octets is h e = cc

-- the list that remains after one more label, whatever the call returned
pub drop_next : {A : Type 0} (view : A → List ℕ) (all now next : List (List ℕ)) (i : ℕ) (r : Option A) → now ≡ drop i all → i < length all
    → YieldsFirstBy view (λ s. s) now r next → next ≡ drop (i + 1) all
drop_next view all now next i None e lt h =
    let z : length (drop i all) ≡ 0 = ap length (sym e ∙ h.0) in absurd (omega (arith, length-drop i all))
drop_next view all now next i (Some x) e lt h =
    let d : now ≡ get_or all i [] ∷ drop (suc i) all = e ∙ drop-cons all i [] lt in
    rw add-one (let t = sym h ∙ d in cc)

-- The labels of octets, and their text.
use Rattle.std.proofs.Common.{ℕ, zero, suc, ◌≡◌, ◌+◌, ◌-◌, ◌<◌, ◌≤◌, Bool, true, false, List, [], ◌∷◌, ◌++◌, length, take, drop, get_or, refl, sym, ap, ◌∙◌, arith, append_assoc, append-nil, min}
use Rattle.std.specs.Prelude.{◌==◌}
use Rattle.std.proofs.lemmas.Bool.{eqb-true, eqb-false}
use Rattle.std.proofs.lemmas.List.{take_all, length-drop}
use Rattle.dns_wire.specs.Printed.{joined_by, dotted_by}
use Rattle.dns_wire.specs.ZoneText.{zone_label}
use Rattle.dns_wire.proofs.Texts.{dotted_joined}
use Rattle.rdata_tokens.specs.PrintedNames.{label_and_dot, first_labels, labels_in_octets, wire_name_text}

-- ---- the labels of octets

front_enough : (k m : ℕ) (xs : List ℕ) → length xs ≤ k → length xs ≤ m → first_labels k xs ≡ first_labels m xs
front_enough zero zero xs h g = refl
front_enough zero (suc m) [] h g = refl
front_enough zero (suc m) (x ∷ xs) h g = absurd (omega arith)
front_enough (suc k) zero [] h g = refl
front_enough (suc k) zero (x ∷ xs) h g = absurd (omega arith)
front_enough (suc k) (suc m) [] h g = refl
front_enough (suc k) (suc m) (x ∷ xs) h g =
    ap (λ ls. take x xs ∷ ls) (front_enough k m (drop x xs) (omega (arith, length-drop x xs)) (omega (arith, length-drop x xs)))

pub octets_no_labels : labels_in_octets [] ≡ []
unfolding labels_in_octets
octets_no_labels = refl

pub octets_labels : (n : ℕ) (xs : List ℕ) → labels_in_octets (n ∷ xs) ≡ take n xs ∷ labels_in_octets (drop n xs)
unfolding labels_in_octets
octets_labels n xs = ap (λ ls. take n xs ∷ ls) (front_enough (length xs) (length (drop n xs)) (drop n xs) (omega (arith, length-drop n xs)) (omega arith))

-- some octets have some labels
octets_some : (n : ℕ) (xs : List ℕ) → 0 < length (labels_in_octets (n ∷ xs))
octets_some n xs = omega (arith, ap length (octets_labels n xs))

joined_cons : (label : List ℕ) (labels : List (List ℕ)) → 0 < length labels → joined_by zone_label (label ∷ labels) ≡ (zone_label label ++ 46 ∷ []) ++ joined_by zone_label labels
joined_cons label [] h = absurd (omega arith)
joined_cons label (x ∷ xs) h = sym (append_assoc (zone_label label) (46 ∷ []) (joined_by zone_label (x ∷ xs)))

take_least : (n : ℕ) (xs : List ℕ) (count : ℕ) → count ≡ min n (length xs) → (take count xs ≡ take n xs) × (drop count xs ≡ drop n xs)
take_least zero xs count h = let z : count ≡ 0 = omega (arith, h) in (ap (λ m. take m xs) z, ap (λ m. drop m xs) z)
take_least (suc n) [] count h = let z : count ≡ 0 = omega (arith, h) in (ap (λ m. take m []) z, ap (λ m. drop m []) z)
take_least (suc n) (x ∷ xs) zero h = absurd (omega (arith, h))
take_least (suc n) (x ∷ xs) (suc count) h =
    let more = take_least n xs count (omega (arith, h)) in (ap (λ r. x ∷ r) more.0, more.1)

-- the next label of octets, and its dot if others follow
pub labels_next : (rest : List ℕ) (count : ℕ) (is_last : Bool) → 0 < length rest → count ≡ min (get_or rest 0 0) (length rest - 1) → is_last ≡ (length rest == 1 + count)
    → joined_by zone_label (labels_in_octets rest) ≡ label_and_dot (take count (drop 1 rest)) is_last ++ joined_by zone_label (labels_in_octets (drop count (drop 1 rest)))
labels_next [] count is_last some e last = absurd (omega arith)
labels_next (n ∷ xs) count is_last some e last =
    let counted : count ≡ min n (length xs) = let off : length (n ∷ xs) - 1 ≡ length xs = omega arith in e ∙ ap (λ m. min n m) off in
    let least = take_least n xs count counted in
    rw (octets_labels n xs, least.0, least.1) (by_rest counted (drop n xs) is_last refl last)
  where
    by_rest : count ≡ min n (length xs) → (after : List ℕ) (is_last : Bool) → drop n xs ≡ after → is_last ≡ (length (n ∷ xs) == 1 + count)
        → joined_by zone_label (take n xs ∷ labels_in_octets after) ≡ label_and_dot (take n xs) is_last ++ joined_by zone_label (labels_in_octets after)
    by_rest counted [] true is h = rw octets_no_labels (sym (append-nil (zone_label (take n xs))))
    by_rest counted [] false is h = absurd (eqb-false (length (n ∷ xs)) (1 + count) (sym h) (omega (arith, counted, ap length is, length-drop n xs)))
    by_rest counted (y ∷ ys) true is h =
        let whole = eqb-true (length (n ∷ xs)) (1 + count) (sym h) in absurd (omega (arith, counted, whole, ap length is, length-drop n xs))
    by_rest counted (y ∷ ys) false is h = joined_cons (take n xs) (labels_in_octets (y ∷ ys)) (octets_some y ys)

-- what is printed with the next label
pub labels_step : (rest done all : List ℕ) (count place left : ℕ) (is_last : Bool) → 0 < length rest → count ≡ min (get_or rest 0 0) (length rest - 1) → is_last ≡ (length rest == 1 + count)
    → place ≡ count → left ≡ length rest - (1 + count) → done ++ joined_by zone_label (labels_in_octets rest) ≡ all
    → (done ++ label_and_dot (take place (drop 1 rest)) is_last) ++ joined_by zone_label (labels_in_octets (take left (drop (1 + count) rest))) ≡ all
labels_step [] done all count place left is_last some e last p l h = absurd (omega arith)
labels_step (x ∷ xs) done all count place left is_last some e last p l h =
    let one : 1 + count ≡ suc count = omega arith in
    let behind : drop (1 + count) (x ∷ xs) ≡ drop count xs = ap (λ n. drop n (x ∷ xs)) one in
    let whole : take left (drop (1 + count) (x ∷ xs)) ≡ drop count xs = ap (take left) behind ∙ take_all left (drop count xs) (omega (arith, l, length-drop count xs)) in
    ap (λ t. (done ++ label_and_dot (take t xs) is_last) ++ joined_by zone_label (labels_in_octets (take left (drop (1 + count) (x ∷ xs))))) p
    ∙ ap (λ r. (done ++ label_and_dot (take count xs) is_last) ++ joined_by zone_label (labels_in_octets r)) whole
    ∙ append_assoc done (label_and_dot (take count xs) is_last) (joined_by zone_label (labels_in_octets (drop count xs)))
    ∙ ap (λ t. done ++ t) (sym (labels_next (x ∷ xs) count is_last some e last)) ∙ h

pub labels_end : (rest done all : List ℕ) → rest ≡ [] → done ++ joined_by zone_label (labels_in_octets rest) ≡ all → done ≡ all
labels_end rest done all none h =
    sym (append-nil done) ∙ ap (λ l. done ++ joined_by zone_label l) (sym (ap labels_in_octets none ∙ octets_no_labels)) ∙ h

pub one_octet_text : (octets : List ℕ) → length octets ≡ 1 → 46 ∷ [] ≡ wire_name_text octets
one_octet_text [] h = absurd (omega arith)
one_octet_text (x ∷ []) h = ap (λ l. dotted_by zone_label l) (sym (octets_labels x [] ∙ nothing x))
  where
    nothing : (n : ℕ) → take n [] ∷ labels_in_octets (drop n []) ≡ [] ∷ []
    nothing zero = ap (λ l. [] ∷ l) octets_no_labels
    nothing (suc n) = ap (λ l. [] ∷ l) octets_no_labels
one_octet_text (x ∷ y ∷ ys) h = absurd (omega arith)

pub joined_text_is : (octets : List ℕ) → (length octets ≡ 1 → ⊥) → joined_by zone_label (labels_in_octets octets) ≡ wire_name_text octets
joined_text_is octets more = sym (dotted_joined zone_label (labels_in_octets octets) (no_root octets more))
  where
    no_root : (octets : List ℕ) → (length octets ≡ 1 → ⊥) → labels_in_octets octets ≡ [] ∷ [] → ⊥
    no_root [] more h = let e : [] ≡ [] ∷ [] = sym octets_no_labels ∙ h in omega (arith, ap length e)
    no_root (x ∷ []) more h = more refl
    no_root (zero ∷ y ∷ ys) more h =
        let e = sym (octets_labels zero (y ∷ ys)) ∙ h in omega (arith, ap length e, octets_some y ys)
    no_root (suc n ∷ y ∷ ys) more h =
        let e = sym (octets_labels (suc n) (y ∷ ys)) ∙ h in
        let f : y ∷ take n ys ≡ [] = cc in omega (arith, ap length f)

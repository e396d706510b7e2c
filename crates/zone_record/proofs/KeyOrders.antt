-- The order of keys is the order of names.
use Rattle.std.proofs.Common.{ℕ, ◌≡◌, ◌+◌, ◌<◌, List, [], ◌∷◌, ◌++◌, map, refl, sym, ap, ◌∙◌, arith, append_assoc, length, length-append, ◌≤◌, ◌*◌}
use Rattle.std.specs.Prelude.{Bool, nat_lt, true, false}
use Rattle.std.specs.Cmp.Lexicographic.{slice_cmp}
use Rattle.std.specs.List.{flat_map}
use Rattle.std.specs.Ordering.{nat_cmp, ordering_then}
use Rattle.std.specs.declared.cmp.Ordering.{Ordering}
use Rattle.std.specs.declared.cmp.Ordering.TheVariants.{Less, Equal, Greater}
use Rattle.std.specs.Prelude.{◌↔◌}
use Rattle.std.proofs.lemmas.Cmp.{nat_cmp_total, tied_itself}
use Rattle.zone_record.proofs.Orders.{octets_tied}
use Rattle.std.proofs.lemmas.Bool.Decides.{nat_tests}
use Rattle.std.proofs.lemmas.Grind.{flat_map-append}
use Rattle.std.proofs.lemmas.List.{append-nil, reverse-append}
use Rattle.dns_octets.specs.Appending.{Extends}
use Rattle.dns_octets.specs.Lowered.{lowered}
use Rattle.dns_wire.specs.Wire.{wire, wire_label}
use Rattle.zone_record.proofs.LoweredNames.{length_lowered}
use Rattle.zone_record.proofs.NameWalks.{first_label}
use Rattle.zone_record.specs.Names.{octet_order, labels_from_root, name_order}
use Rattle.zone_record.proofs.NameOrders.{then_assoc}
use Rattle.zone_record.specs.Walks.{HasLabels}
use Rattle.zone_record.specs.Keys.{key_octets, label_key, order_key, AppendsKey}

less : (m n : ℕ) → m < n → nat_cmp m n ≡ Less
less m n h = Prim.grind (arith, nat_tests)

greater : (m n : ℕ) → n < m → nat_cmp m n ≡ Greater
greater m n h = Prim.grind (arith, nat_tests)

-- an octet that is itself in a key
pub alone : (o : ℕ) → 1 < o → key_octets o ≡ o ∷ []
alone o h = Prim.grind (arith, nat_tests)

pub paired : (o : ℕ) → o < 2 → key_octets o ≡ 1 ∷ (o + 1) ∷ []
paired o h = Prim.grind (arith, nat_tests)

pub data Is (o : ℕ) : Type 0 where
  low : o < 2 → Is o
  high : 1 < o → Is o

pub is : (o : ℕ) → Is o
is o = by (nat_lt o 2) refl
  where
    by : (b : Bool) → b ≡ nat_lt o 2 → Is o
    by true h = low (Prim.grind (arith, nat_tests))
    by false h = high (Prim.grind (arith, nat_tests))

more : (m n : ℕ) (p q : Ordering) → nat_cmp m n ≡ p → ordering_then (nat_cmp m n) q ≡ ordering_then p q
more m n p q h = ap (λ c. ordering_then c q) h

plus_one : (m n : ℕ) → nat_cmp (m + 1) (n + 1) ≡ nat_cmp m n
plus_one m n = Prim.grind (arith, nat_tests)

-- an octet's part of a key decides as the octet does, and before what follows it
pub octets_in_keys : (o p : ℕ) (r s : List ℕ) → octet_order (key_octets o ++ r) (key_octets p ++ s) ≡ ordering_then (nat_cmp o p) (octet_order r s)
octets_in_keys o p r s = by (is o) (is p)
  where
    at : (a b : List ℕ) → key_octets o ≡ a → key_octets p ≡ b → octet_order (a ++ r) (b ++ s) ≡ ordering_then (nat_cmp o p) (octet_order r s)
        → octet_order (key_octets o ++ r) (key_octets p ++ s) ≡ ordering_then (nat_cmp o p) (octet_order r s)
    at a b h k e = (λ i. octet_order (h i ++ r) (k i ++ s)) ∙ e

    by : Is o → Is p → octet_order (key_octets o ++ r) (key_octets p ++ s) ≡ ordering_then (nat_cmp o p) (octet_order r s)
    by (low h) (low k) = at _ _ (paired o h) (paired p k) (ap (λ c. ordering_then c (octet_order r s)) (plus_one o p))
    by (low h) (high k) = at _ _ (paired o h) (alone p k) (more 1 p Less _ (less 1 p k) ∙ sym (more o p Less _ (less o p (omega (arith, h, k)))))
    by (high h) (low k) = at _ _ (alone o h) (paired p k) (more o 1 Greater _ (greater o 1 h) ∙ sym (more o p Greater _ (greater o p (omega (arith, h, k)))))
    by (high h) (high k) = at _ _ (alone o h) (alone p k) refl

key_begins : (o : ℕ) (r : List ℕ) → (first : ℕ) × (rest : List ℕ) × (key_octets o ++ r ≡ first ∷ rest) × (0 < first)
key_begins o r = by (is o)
  where
    by : Is o → (first : ℕ) × (rest : List ℕ) × (key_octets o ++ r ≡ first ∷ rest) × (0 < first)
    by (low h) = (1, (o + 1) ∷ r, ap (λ x. x ++ r) (paired o h), omega arith)
    by (high h) = (o, r, ap (λ x. x ++ r) (alone o h), omega (arith, h))

-- a label's part of a key decides as the label does
pub labels_in_keys : (x y : List ℕ) (r s : List ℕ) → octet_order (label_key x ++ r) (label_key y ++ s) ≡ ordering_then (octet_order x y) (octet_order r s)
labels_in_keys [] [] r s = refl
labels_in_keys [] (p ∷ y) r s =
    let b = key_begins p (label_key y ++ s) in
    (λ i. octet_order (0 ∷ r) ((append_assoc (key_octets p) (flat_map key_octets y) (0 ∷ []) i) ++ s))
    ∙ (λ i. octet_order (0 ∷ r) (append_assoc (key_octets p) (label_key y) s i))
    ∙ ap (octet_order (0 ∷ r)) b.2 ∙ more 0 b.0 Less _ (less 0 b.0 b.3)
labels_in_keys (o ∷ x) [] r s =
    let b = key_begins o (label_key x ++ r) in
    (λ i. octet_order ((append_assoc (key_octets o) (flat_map key_octets x) (0 ∷ []) i) ++ r) (0 ∷ s))
    ∙ (λ i. octet_order (append_assoc (key_octets o) (label_key x) r i) (0 ∷ s))
    ∙ ap (λ l. octet_order l (0 ∷ s)) b.2 ∙ more b.0 0 Greater _ (greater b.0 0 b.3)
labels_in_keys (o ∷ x) (p ∷ y) r s =
    (λ i. octet_order ((append_assoc (key_octets o) (flat_map key_octets x) (0 ∷ []) i) ++ r) ((append_assoc (key_octets p) (flat_map key_octets y) (0 ∷ []) i) ++ s))
    ∙ (λ i. octet_order (append_assoc (key_octets o) (label_key x) r i) (append_assoc (key_octets p) (label_key y) s i))
    ∙ octets_in_keys o p (label_key x ++ r) (label_key y ++ s)
    ∙ ap (ordering_then (nat_cmp o p)) (labels_in_keys x y r s)
    ∙ sym (then_assoc (nat_cmp o p) (octet_order x y) (octet_order r s))

some_key : (y s : List ℕ) → (first : ℕ) × (rest : List ℕ) × (label_key y ++ s ≡ first ∷ rest)
some_key [] s = (0, s, refl)
some_key (o ∷ y) s =
    let b = key_begins o (label_key y ++ s) in
    (b.0, b.1, ap (λ l. l ++ s) (append_assoc (key_octets o) (flat_map key_octets y) (0 ∷ [])) ∙ append_assoc (key_octets o) (label_key y) s ∙ b.2)

nothing_before : (y s : List ℕ) → octet_order [] (label_key y ++ s) ≡ Less
nothing_before y s = ap (octet_order []) (some_key y s).2

nothing_behind : (x r : List ℕ) → octet_order (label_key x ++ r) [] ≡ Greater
nothing_behind x r = ap (λ l. octet_order l []) (some_key x r).2

-- keys are in the order of the lists of labels
keys_of_labels : (xs ys : List (List ℕ)) → slice_cmp octet_order xs ys ≡ octet_order (flat_map label_key xs) (flat_map label_key ys)
keys_of_labels [] [] = refl
keys_of_labels [] (y ∷ ys) = sym (nothing_before y (flat_map label_key ys))
keys_of_labels (x ∷ xs) [] = sym (nothing_behind x (flat_map label_key xs))
keys_of_labels (x ∷ xs) (y ∷ ys) =
    ap (ordering_then (octet_order x y)) (keys_of_labels xs ys) ∙ sym (labels_in_keys x y (flat_map label_key xs) (flat_map label_key ys))

-- the order of keys is the canonical order of names
pub key_order : (a b : List (List ℕ)) → name_order a b ≡ octet_order (order_key a) (order_key b)
key_order a b = keys_of_labels (labels_from_root a) (labels_from_root b)

-- the key of a name ends with that of its first label
pub key_more : (label : List ℕ) (labels : List (List ℕ)) → order_key (label ∷ labels) ≡ order_key labels ++ label_key (lowered label)
key_more label labels =
    ap (flat_map label_key) (reverse-append (lowered label ∷ []) (map lowered labels))
    ∙ flat_map-append label_key (labels_from_root labels) (lowered label ∷ []) ∙ ap (λ l. order_key labels ++ l) (append-nil (label_key (lowered label)))

-- no labels have no octets in a key
pub key_none : (old octets : List ℕ) (labels : List (List ℕ)) → octets ≡ wire labels → length octets ≡ 0 → old ≡ old ++ order_key labels
key_none old octets [] h none = sym (append-nil old)
key_none old octets (l ∷ ls) h none = absurd (omega (arith, ap length h, length-append l (wire ls)))

-- the key of labels is that of the labels after the first, and then that of the first
pub key_behind : (old middle new label rest octets : List ℕ) → octets ≡ wire_label label ++ rest → AppendsKey rest old middle → new ≡ middle ++ label_key (lowered label)
    → AppendsKey octets old new
key_behind old middle new label rest octets h k e labels w =
    let first = first_label labels label rest (sym w ∙ h) in
    e ∙ ap (λ l. l ++ label_key (lowered label)) (k first.0 first.2) ∙ append_assoc old (order_key first.0) (label_key (lowered label))
    ∙ ap (λ l. old ++ l) (sym (key_more label first.0)) ∙ ap (λ l. old ++ order_key l) (sym first.1)

-- what extends old octets and more extends the old ones
pub extends_behind : (old more middle new : List ℕ) → middle ≡ old ++ more → Extends middle new → Extends old new
extends_behind old more middle new h e = (more ++ e.0, e.1 ∙ ap (λ l. l ++ e.0) h ∙ append_assoc old more e.0)

pub labels_behind : (octets label rest old middle : List ℕ) → (h : HasLabels 0 octets) → (e : octets ≡ wire_label label ++ rest) → AppendsKey rest old middle
    → middle ≡ old ++ order_key (first_label h.0 label rest (sym h.1 ∙ e)).0
labels_behind octets label rest old middle h e k = k _ (first_label h.0 label rest (sym h.1 ∙ e)).2

same_front : (front left right : List ℕ) → octet_order (front ++ left) (front ++ right) ≡ octet_order left right
same_front [] left right = refl
same_front (o ∷ front) left right = ap (λ c. ordering_then c (octet_order (front ++ left) (front ++ right))) (tied_itself nat_cmp_total o) ∙ same_front front left right

-- what follows the same octets of keys decides as the names do
pub order_behind : (left right front : List ℕ) (a b : List (List ℕ)) → order_key a ≡ front ++ left → order_key b ≡ front ++ right → octet_order left right ≡ name_order a b
order_behind left right front a b h k = sym (same_front front left right) ∙ (λ i. octet_order (sym h i) (sym k i)) ∙ sym (key_order a b)

-- the keys of names are the same exactly if the names differ at most in case
pub keys_tied : (a b : List (List ℕ)) → (order_key a ≡ order_key b) ↔ (name_order a b ≡ Equal)
keys_tied a b = (
  λ h. key_order a b ∙ (octets_tied (order_key a) (order_key b)).1 h,
  λ h. (octets_tied (order_key a) (order_key b)).0 (sym (key_order a b) ∙ h),
)

octet_length : (o : ℕ) → length (key_octets o) ≤ 2
octet_length o = by (is o)
  where
    by : Is o → length (key_octets o) ≤ 2
    by (low h) = omega (arith, ap length (paired o h))
    by (high h) = omega (arith, ap length (alone o h))

octets_length : (os : List ℕ) → length (flat_map key_octets os) ≤ 2 * length os
octets_length [] = omega arith
octets_length (o ∷ os) = omega (arith, octets_length os, octet_length o, length-append (key_octets o) (flat_map key_octets os))

-- a key has two octets at most for each octet of the wire format, less one for each label
pub key_length : (labels : List (List ℕ)) → length (order_key labels) + length labels ≤ 2 * length (wire labels)
key_length [] = omega arith
key_length (label ∷ labels) =
    omega (
      arith,
      key_length labels,
      octets_length (lowered label),
      length_lowered label,
      ap length (key_more label labels),
      length-append (order_key labels) (label_key (lowered label)),
      length-append (flat_map key_octets (lowered label)) (0 ∷ []),
      length-append (wire_label label) (wire labels),
    )

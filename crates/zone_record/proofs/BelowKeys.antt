-- Which keys begin with the key of a name.
use Rattle.std.proofs.Common.{ℕ, ◌≡◌, ◌+◌, List, [], ◌∷◌, ◌++◌, length, map, refl, sym, ap, ◌∙◌, arith, append_assoc}
use Rattle.std.specs.Prelude.{◌↔◌, reverse}
use Rattle.std.specs.List.{flat_map}
use Rattle.std.proofs.lemmas.List.{reverse-append, reverse-reverse}
use Rattle.std.proofs.lemmas.Grind.{flat_map-append}
use Rattle.dns_octets.specs.Lowered.{lowered}
use Rattle.zone_record.specs.Keys.{key_octets, label_key, order_key, IsAtOrBelow}
use Rattle.zone_record.specs.Names.{labels_from_root}
use Rattle.zone_record.proofs.KeyOrders.{Is, low, high, is, alone, paired}

cons_same : (x y : ℕ) (r s : List ℕ) → x ∷ r ≡ y ∷ s → (x ≡ y) × (r ≡ s)
cons_same x y r s h = (ap (λ l. head_or l) h, ap (λ l. tail_of l) h)
  where
    head_or : List ℕ → ℕ
    head_or [] = 0
    head_or (o ∷ os) = o

    tail_of : List ℕ → List ℕ
    tail_of [] = []
    tail_of (o ∷ os) = os

-- an octet's part of a key determines the octet
octet_told : (o p : ℕ) (r s : List ℕ) → key_octets o ++ r ≡ key_octets p ++ s → (o ≡ p) × (r ≡ s)
octet_told o p r s h = by (is o) (is p)
  where
    at : (a b : List ℕ) → key_octets o ≡ a → key_octets p ≡ b → a ++ r ≡ b ++ s
    at a b k l = ap (λ x. x ++ r) (sym k) ∙ h ∙ ap (λ x. x ++ s) l

    by : Is o → Is p → (o ≡ p) × (r ≡ s)
    by (low k) (low l) =
        let rest = (cons_same 1 1 _ _ (at _ _ (paired o k) (paired p l))).1 in
        let told = cons_same (o + 1) (p + 1) r s rest in (omega (arith, told.0), told.1)
    by (low k) (high l) = absurd (omega (arith, (cons_same 1 p _ _ (at _ _ (paired o k) (alone p l))).0, l))
    by (high k) (low l) = absurd (omega (arith, (cons_same o 1 _ _ (at _ _ (alone o k) (paired p l))).0, k))
    by (high k) (high l) = cons_same o p r s (at _ _ (alone o k) (alone p l))

octet_some : (o : ℕ) (r s : List ℕ) → 0 ∷ s ≡ key_octets o ++ r → ⊥
octet_some o r s h = by (is o)
  where
    by : Is o → ⊥
    by (low k) = omega (arith, (cons_same 0 1 s ((o + 1) ∷ r) (h ∙ ap (λ x. x ++ r) (paired o k))).0)
    by (high k) = omega (arith, (cons_same 0 o s r (h ∙ ap (λ x. x ++ r) (alone o k))).0, k)

parted : (o : ℕ) (x r : List ℕ) → label_key (o ∷ x) ++ r ≡ key_octets o ++ (label_key x ++ r)
parted o x r = ap (λ l. l ++ r) (append_assoc (key_octets o) (flat_map key_octets x) (0 ∷ [])) ∙ append_assoc (key_octets o) (label_key x) r

-- a label's part of a key determines the label
label_told : (x y r s : List ℕ) → label_key x ++ r ≡ label_key y ++ s → (x ≡ y) × (r ≡ s)
label_told [] [] r s h = (refl, (cons_same 0 0 r s h).1)
label_told [] (p ∷ y) r s h = absurd (octet_some p (label_key y ++ s) r (h ∙ parted p y s))
label_told (o ∷ x) [] r s h = absurd (octet_some o (label_key x ++ r) s (sym h ∙ parted o x r))
label_told (o ∷ x) (p ∷ y) r s h =
    let first = octet_told o p (label_key x ++ r) (label_key y ++ s) (sym (parted o x r) ∙ h ∙ parted p y s) in
    let rest = label_told x y r s first.1 in
    ((λ i. first.0 i ∷ rest.0 i), rest.1)

label_some : (x r : List ℕ) → [] ≡ label_key x ++ r → ⊥
label_some [] r h = omega (arith, ap length h)
label_some (o ∷ x) r h = by (is o)
  where
    by : Is o → ⊥
    by (low k) = omega (arith, ap length (h ∙ parted o x r ∙ ap (λ l. l ++ (label_key x ++ r)) (paired o k)))
    by (high k) = omega (arith, ap length (h ∙ parted o x r ∙ ap (λ l. l ++ (label_key x ++ r)) (alone o k)))

-- if the parts of labels begin with those of other labels, the labels begin with the others
labels_told : (xs ys : List (List ℕ)) (rest : List ℕ) → flat_map label_key ys ≡ flat_map label_key xs ++ rest → (zs : List (List ℕ)) × (ys ≡ xs ++ zs)
labels_told [] ys rest h = (ys, refl)
labels_told (x ∷ xs) [] rest h = absurd (label_some x (flat_map label_key xs ++ rest) (h ∙ append_assoc (label_key x) (flat_map label_key xs) rest))
labels_told (x ∷ xs) (y ∷ ys) rest h =
    let told = label_told y x (flat_map label_key ys) (flat_map label_key xs ++ rest) (h ∙ append_assoc (label_key x) (flat_map label_key xs) rest) in
    let more = labels_told xs ys rest told.1 in
    (more.0, (λ i. told.0 i ∷ more.1 i))

-- a key begins with that of another name exactly if its name is the other or below it
pub begins_below : (name top : List (List ℕ)) → ((rest : List ℕ) × (order_key name ≡ order_key top ++ rest)) ↔ IsAtOrBelow name top
begins_below name top = (
  λ h. let told = labels_told (labels_from_root top) (labels_from_root name) h.0 h.1 in
      (reverse told.0, sym (reverse-reverse (map lowered name)) ∙ ap reverse told.1 ∙ reverse-append (labels_from_root top) told.0 ∙ ap (λ l. reverse told.0 ++ l) (reverse-reverse (map lowered top))),
  λ h. (flat_map label_key (reverse h.0), ap (flat_map label_key) (ap reverse h.1 ∙ reverse-append h.0 (map lowered top)) ∙ flat_map-append label_key (labels_from_root top) (reverse h.0)),
)

-- Octets split after fields, whether they begin with these or not.
use Rattle.std.proofs.Common.{ℕ, zero, suc, ◌≡◌, ◌≢◌, ◌+◌, ◌<◌, ◌≤◌, ◌-◌, List, [], ◌∷◌, ◌++◌, length, take, drop, refl, sym, ap, ◌∙◌, arith, length-drop}
use Rattle.std.proofs.lemmas.List.{drop-drop, take_all}
use Rattle.rdata.specs.GatewayKeys.{labels_size}

-- more labels than octets count as many
enough : (n m : ℕ) (os : List ℕ) → length os ≤ n → length os ≤ m → labels_size n os ≡ labels_size m os
enough zero zero os h k = refl
enough zero (suc m) [] h k = refl
enough (suc n) zero [] h k = refl
enough (suc n) (suc m) [] h k = refl
enough zero (suc m) (o ∷ os) h k = absurd (omega (arith, h))
enough (suc n) zero (o ∷ os) h k = absurd (omega (arith, k))
enough (suc n) (suc m) (zero ∷ os) h k = refl
enough (suc n) (suc m) (suc s ∷ os) h k =
    ap (λ l. 2 + s + l) (enough n m (drop (suc s) os) (omega (arith, h, length-drop (suc s) os)) (omega (arith, k, length-drop (suc s) os)))

after_label : (count : ℕ) (after : List ℕ) → 0 < count
    → drop (labels_size (length (count ∷ after)) (count ∷ after)) (count ∷ after) ≡ drop (labels_size (length (drop count after)) (drop count after)) (drop count after)
after_label zero after h = absurd (omega (arith, h))
after_label (suc s) after h =
    let rest = drop (suc s) after in
    let same : labels_size (length after) rest ≡ labels_size (length rest) rest = enough (length after) (length rest) rest (omega (arith, length-drop (suc s) after)) (omega arith) in
    let size : 2 + s + labels_size (length after) rest ≡ suc (suc s + labels_size (length rest) rest) = omega (arith, same) in
    ap (λ n. drop n (suc s ∷ after)) size ∙ sym (drop-drop (labels_size (length rest) rest) (suc s) after)

pub labels_none : (octets : List ℕ) → length octets ≡ 0 → octets ≡ drop (labels_size (length octets) octets) octets
labels_none [] h = refl
labels_none (o ∷ os) h = absurd (omega (arith, h))

pub labels_root : (octets after : List ℕ) (count : ℕ) → octets ≡ count ∷ after → count ≡ 0 → after ≡ drop (labels_size (length octets) octets) octets
labels_root octets after count e zero_is =
    let whole : octets ≡ 0 ∷ after = e ∙ ap (λ n. n ∷ after) zero_is in
    ap (λ o. drop (labels_size (length o) o) o) (sym whole)

pub labels_more : (octets after rest : List ℕ) (count : ℕ) → octets ≡ count ∷ after → 0 < count → rest ≡ drop count after
    → drop (labels_size (length rest) rest) rest ≡ drop (labels_size (length octets) octets) octets
labels_more octets after rest count e some r =
    ap (λ o. drop (labels_size (length o) o) o) r ∙ sym (after_label count after some) ∙ ap (λ o. drop (labels_size (length o) o) o) (sym e)

-- the octets before those that are left
before_rest : (n : ℕ) (octets : List ℕ) → take (length octets - length (drop n octets)) octets ≡ take n octets
before_rest zero octets = let none : length octets - length octets ≡ 0 = omega arith in ap (λ (k : ℕ). take k octets) none
before_rest (suc n) [] = refl
before_rest (suc n) (o ∷ octets) =
    let less : length (o ∷ octets) - length (drop n octets) ≡ suc (length octets - length (drop n octets)) = omega (arith, length-drop n octets) in
    ap (λ k. take k (o ∷ octets)) less ∙ ap (λ l. o ∷ l) (before_rest n octets)

pub first_part : (octets rest part : List ℕ) (n : ℕ) → rest ≡ drop n octets → part ≡ take (length octets - length rest) octets → part ≡ take n octets
first_part octets rest part n h e = e ∙ ap (λ r. take (length octets - length r) octets) h ∙ before_rest n octets

-- The indices of set bits, and the types of a window.
use Rattle.std.proofs.Common.{◌≡◌, ◌≢◌, ℕ, ◌+◌, ◌-◌, ◌*◌, ◌/◌, ◌<◌, ◌≤◌, ◌||◌, ◌==◌, true, false, cond, List, [], ◌∷◌, ◌++◌, length, All, map, refl, sym, ap, ◌∙◌, arith, zero, suc, inl, inr, subst, min}
use Rattle.std.proofs.lemmas.List.Folds.{list_any-append}
use Rattle.std.proofs.lemmas.List.Elements.{All-nil, All-cons, All-same, All-weaker, All-append, All-map, All-tail}
use Rattle.std.proofs.lemmas.Bool.{cases_eq, eq-eqb, ne_eqb}
use Rattle.rdata_values.specs.Bitmap.{has, one_if, bit_in, set_places, types_in, IsAscending}
use Rattle.rdata_values.proofs.Bits.{or_false}
use Rattle.rdata_values.proofs.Windows.{has_none}
use Rattle.rdata_values.proofs.Taking.{TakesWindow, none_above, bit_past}
use Rattle.rdata_values.proofs.Telling.{has_later, above_first, rest_ascends}

pub bit_below : (octets : List ℕ) (p : ℕ) → bit_in octets p < 2
bit_below octets p = omega arith

pub places_none : (octets : List ℕ) (first : ℕ) → set_places octets first 0 ≡ []
unfolding set_places
places_none octets first = refl

places_first : (octets : List ℕ) (first n : ℕ) → set_places octets first (suc n) ≡ cond (bit_in octets first == 1) (first ∷ []) [] ++ set_places octets (first + 1) n
unfolding set_places
places_first octets first n = refl

pub place_set : (octets : List ℕ) (first n : ℕ) → bit_in octets first ≡ 1 → set_places octets first (suc n) ≡ first ∷ set_places octets (first + 1) n
place_set octets first n e = places_first octets first n ∙ ap (λ b. cond b (first ∷ []) [] ++ set_places octets (first + 1) n) (eq-eqb (bit_in octets first) 1 e)

pub place_clear : (octets : List ℕ) (first n : ℕ) → bit_in octets first ≢ 1 → set_places octets first (suc n) ≡ set_places octets (first + 1) n
place_clear octets first n e = places_first octets first n ∙ ap (λ b. cond b (first ∷ []) [] ++ set_places octets (first + 1) n) (ne_eqb (bit_in octets first) 1 e)

-- without set bits there are no indices
pub no_places : (octets : List ℕ) (first n : ℕ) → ((p : ℕ) → first ≤ p → p < first + n → bit_in octets p ≡ 0) → set_places octets first n ≡ []
no_places octets first zero h = places_none octets first
no_places octets first (suc n) h =
    let clear = h first (omega arith) (omega arith) in
    place_clear octets first n (λ e. omega arith) ∙ no_places octets (first + 1) n (λ p low high. h p (omega arith) (omega arith))

pub places_within : (octets : List ℕ) (first n : ℕ) → All (λ p. (first ≤ p) × (p < first + n)) (set_places octets first n)
places_within octets first zero = All-same (λ p. (first ≤ p) × (p < first + zero)) (set_places octets first 0) [] (places_none octets first) (All-nil (λ p. (first ≤ p) × (p < first + zero)))
places_within octets first (suc n) =
    let later : All (λ p. (first ≤ p) × (p < first + suc n)) (set_places octets (first + 1) n) =
    All-weaker (λ p. (first + 1 ≤ p) × (p < first + 1 + n)) (λ p. (first ≤ p) × (p < first + suc n)) (λ p h. (omega (arith, h.0), omega (arith, h.1)))
    (set_places octets (first + 1) n) (places_within octets (first + 1) n) in
    elim (cases_eq (bit_in octets first) 1) [
      | inl e ↦ All-same (λ p. (first ≤ p) × (p < first + suc n)) (set_places octets first (suc n)) (first ∷ set_places octets (first + 1) n) (place_set octets first n e)
          (All-cons (λ p. (first ≤ p) × (p < first + suc n)) first (set_places octets (first + 1) n) (omega arith, omega arith) later)
      | inr e ↦ All-same (λ p. (first ≤ p) × (p < first + suc n)) (set_places octets first (suc n)) (set_places octets (first + 1) n) (place_clear octets first n e) later
    ]

pub ascend_none : IsAscending []
ascend_none i j d l m = absurd (omega arith)

pub ascend_cons : (x : ℕ) (xs : List ℕ) → All (λ t. x < t) xs → IsAscending xs → IsAscending (x ∷ xs)
ascend_cons x xs low up zero zero d l m = absurd (omega arith)
ascend_cons x xs low up zero (suc j) d l m = low j d (omega arith)
ascend_cons x xs low up (suc i) zero d l m = absurd (omega arith)
ascend_cons x xs low up (suc i) (suc j) d l m = up i j d (omega arith) (omega arith)

ascend_same : (xs ys : List ℕ) → xs ≡ ys → IsAscending ys → IsAscending xs
ascend_same xs ys e up = let P : List ℕ → Type 0 = IsAscending in subst P (sym e) up

pub places_ascend : (octets : List ℕ) (first n : ℕ) → IsAscending (set_places octets first n)
places_ascend octets first zero = ascend_same (set_places octets first 0) [] (places_none octets first) ascend_none
places_ascend octets first (suc n) = elim (cases_eq (bit_in octets first) 1) [
  | inl e ↦ ascend_same (set_places octets first (suc n)) (first ∷ set_places octets (first + 1) n) (place_set octets first n e)
      (ascend_cons first (set_places octets (first + 1) n) (All-weaker (λ p. (first + 1 ≤ p) × (p < first + 1 + n)) (λ p. first < p) (λ p h. omega (arith, h.0))
      (set_places octets (first + 1) n) (places_within octets (first + 1) n)) (places_ascend octets (first + 1) n))
  | inr e ↦ ascend_same (set_places octets first (suc n)) (set_places octets (first + 1) n) (place_clear octets first n e) (places_ascend octets (first + 1) n)
]

has_here : (x t : ℕ) (xs : List ℕ) → x ≡ t → has (x ∷ xs) t ≡ true
has_here x t xs e = ap (λ b. b || has xs t) (eq-eqb x t e)

-- an index is one of them exactly if its bit is set
pub places_have : (octets : List ℕ) (first n code : ℕ) → first ≤ code → code < first + n → one_if (has (set_places octets first n) code) ≡ bit_in octets code
places_have octets first zero code l h = absurd (omega arith)
places_have octets first (suc n) code l h = elim (cases_eq (bit_in octets first) 1) [
  | inl set ↦ (elim (cases_eq first code) [
    | inl e ↦ ap (λ xs. one_if (has xs code)) (place_set octets first n set) ∙ ap one_if (has_here first code (set_places octets (first + 1) n) e) ∙ sym set ∙ ap (bit_in octets) e
    | inr e ↦ ap (λ xs. one_if (has xs code)) (place_set octets first n set) ∙ ap one_if (has_later first code (set_places octets (first + 1) n) e)
        ∙ places_have octets (first + 1) n code (omega arith) (omega arith)
  ])
  | inr clear ↦ ap (λ xs. one_if (has xs code)) (place_clear octets first n clear) ∙ (elim (cases_eq first code) [
    | inl e ↦ (let small = bit_below octets first in
        let is : 0 ≡ bit_in octets first = omega arith in
        ap one_if (has_none (set_places octets (first + 1) n) code (All-weaker (λ p. (first + 1 ≤ p) × (p < first + 1 + n)) (λ p. p ≢ code) (λ p w same. omega (arith, w.0))
        (set_places octets (first + 1) n) (places_within octets (first + 1) n))) ∙ is ∙ ap (bit_in octets) e)
    | inr e ↦ places_have octets (first + 1) n code (omega arith) (omega arith)
  ])
]

abbrev pub in_window : ℕ → ℕ → ℕ
in_window w p = 256 * w + p

has_moved : (w p : ℕ) (xs : List ℕ) → has (map (λ q. 256 * w + q) xs) (256 * w + p) ≡ has xs p
has_moved w p [] = refl
has_moved w p (x ∷ xs) = elim (cases_eq x p) [
  | inl e ↦ has_here (256 * w + x) (256 * w + p) (map (λ q. 256 * w + q) xs) (omega arith) ∙ sym (has_here x p xs e)
  | inr n ↦ has_later (256 * w + x) (256 * w + p) (map (λ q. 256 * w + q) xs) (λ e. n (omega arith)) ∙ has_moved w p xs ∙ sym (has_later x p xs n)
]

moved_ascend : (w : ℕ) (xs : List ℕ) → IsAscending xs → IsAscending (map (λ q. 256 * w + q) xs)
moved_ascend w [] up = ascend_none
moved_ascend w (x ∷ xs) up = ascend_cons (256 * w + x) (map (λ q. 256 * w + q) xs)
    (All-map (λ t. 256 * w + x < t) (λ q. 256 * w + q) xs (All-weaker (λ t. x < t) (λ t. 256 * w + x < 256 * w + t) (λ t h. omega arith) xs (above_first x xs up)))
    (moved_ascend w xs (rest_ascends x xs up))

pub types_within : (w : ℕ) (octets : List ℕ) → All (λ t. (256 * w ≤ t) × (t < 256 * (w + 1))) (types_in w octets 0)
types_within w octets = All-map (λ t. (256 * w ≤ t) × (t < 256 * (w + 1))) (λ q. 256 * w + q) (set_places octets 0 256)
    (All-weaker (λ p. (0 ≤ p) × (p < 0 + 256)) (λ q. (256 * w ≤ 256 * w + q) × (256 * w + q < 256 * (w + 1))) (λ p h. (omega arith, omega (arith, h.1)))
    (set_places octets 0 256) (places_within octets 0 256))

pub types_have : (w : ℕ) (octets : List ℕ) (p : ℕ) → p < 256 → one_if (has (types_in w octets 0) (256 * w + p)) ≡ bit_in octets p
types_have w octets p l = ap one_if (has_moved w p (set_places octets 0 256)) ∙ places_have octets 0 256 p (omega arith) (omega arith)

pub types_ascend : (w : ℕ) (octets : List ℕ) → IsAscending (types_in w octets 0)
types_ascend w octets = moved_ascend w (set_places octets 0 256) (places_ascend octets 0 256)

pub types_elsewhere : (w : ℕ) (octets : List ℕ) (code : ℕ) → code / 256 ≢ w → has (types_in w octets 0) code ≡ false
types_elsewhere w octets code n = has_none (types_in w octets 0) code
    (All-weaker (λ t. (256 * w ≤ t) × (t < 256 * (w + 1))) (λ t. t ≢ code) (λ t h e. n (omega (arith, h.0, h.1))) (types_in w octets 0) (types_within w octets))

-- ascending lists, the first below the second
pub ascend_append : (n : ℕ) (xs ys : List ℕ) → All (λ t. t < n) xs → All (λ t. n ≤ t) ys → IsAscending xs → IsAscending ys → IsAscending (xs ++ ys)
ascend_append n [] ys low high up vp = vp
ascend_append n (x ∷ xs) ys low high up vp =
    let first : x < n = low 0 0 (omega arith) in
    ascend_cons x (xs ++ ys) (All-append (λ t. x < t) xs ys (above_first x xs up) (All-weaker (λ t. n ≤ t) (λ t. x < t) (λ t h. omega arith) ys high))
    (ascend_append n xs ys (All-tail (λ t. t < n) x xs low) high (rest_ascends x xs up) vp)

pub has_both : (xs ys : List ℕ) (code : ℕ) → has (xs ++ ys) code ≡ (has xs code || has ys code)
has_both xs ys code = list_any-append (λ t. t == code) xs ys

pub not_behind : (xs ys : List ℕ) (code : ℕ) → has ys code ≡ false → has (xs ++ ys) code ≡ has xs code
not_behind xs ys code e = has_both xs ys code ∙ ap (λ b. has xs code || b) e ∙ or_false (has xs code)

pub not_in_front : (xs ys : List ℕ) (code : ℕ) → has xs code ≡ false → has (xs ++ ys) code ≡ has ys code
not_in_front xs ys code e = has_both xs ys code ∙ ap (λ b. b || has ys code) e

-- the types of one more window
pub takes_block : (old : List ℕ) (w : ℕ) (octets : List ℕ) → All (λ t. t < 256 * w) old → IsAscending old → TakesWindow old w octets (old ++ types_in w octets 0)
takes_block old w octets below up = record {
  kept = λ code n. not_behind old (types_in w octets 0) code (types_elsewhere w octets code n);
  bits = λ p l. ap one_if (not_in_front old (types_in w octets 0) (256 * w + p) (none_above old (256 * w) (256 * w + p) below (omega arith))) ∙ types_have w octets p l;
  ascending = ascend_append (256 * w) old (types_in w octets 0) below
      (All-weaker (λ t. (256 * w ≤ t) × (t < 256 * (w + 1))) (λ t. 256 * w ≤ t) (λ t h. h.0) (types_in w octets 0) (types_within w octets)) up (types_ascend w octets);
  below = All-append (λ t. t < 256 * (w + 1)) old (types_in w octets 0) (All-weaker (λ t. t < 256 * w) (λ t. t < 256 * (w + 1)) (λ t h. omega arith) old below)
      (All-weaker (λ t. (256 * w ≤ t) × (t < 256 * (w + 1))) (λ t. t < 256 * (w + 1)) (λ t h. h.1) (types_in w octets 0) (types_within w octets));
}

pub set_here : (octets : List ℕ) (place : ℕ) → place < 256 → 1 ≡ bit_in octets place → set_places octets place (256 - place) ≡ place ∷ set_places octets (place + 1) (256 - (place + 1))
set_here octets place l e = ap (set_places octets place) (omega arith) ∙ place_set octets place (256 - (place + 1)) (sym e)

pub clear_here : (octets : List ℕ) (place : ℕ) → place < 256 → 0 ≡ bit_in octets place → set_places octets place (256 - place) ≡ set_places octets (place + 1) (256 - (place + 1))
clear_here octets place l e = ap (set_places octets place) (omega arith) ∙ place_clear octets place (256 - (place + 1)) (λ one. omega arith)

pub clear_behind : (octets : List ℕ) (place end : ℕ) → end ≡ 8 * min (length octets) 32 → end ≤ place → set_places octets place (256 - place) ≡ []
clear_behind octets place end e l = no_places octets place (256 - place) (λ p low high. bit_past octets p (omega arith))

-- A bitmap determines its members, and the members determine an ascending list.
use Rattle.std.proofs.Common.{◌≡◌, ◌≢◌, ℕ, ◌+◌, ◌-◌, ◌*◌, ◌/◌, ◌%◌, ◌<◌, ◌≤◌, ◌||◌, Bool, true, false, List, [], ◌∷◌, ◌++◌, All, refl, sym, ap, ◌∙◌, arith, zero, suc, inl, inr}
use Rattle.std.proofs.lemmas.List.Elements.{All-tail, All-weaker}
use Rattle.std.proofs.lemmas.Bool.{cases_order, eq-eqb, ne_eqb, cases_eq}
use Rattle.rdata_values.specs.Bitmap.{has, one_if, bit_in, window_block, window_blocks, bitmap, IsAscending}
use Rattle.rdata_values.proofs.Blocks.{begins_here, blocks_first}
use Rattle.rdata_values.proofs.Windows.{window_of, has_none}
use Rattle.rdata_values.proofs.Taking.{follows, window_bits}

first_by : (f g : ℕ → List ℕ) (w n : ℕ) → f w ≢ [] → window_blocks f w (suc n) ≡ window_blocks g w (suc n) → (f w ≡ g w) × (window_blocks f (w + 1) n ≡ window_blocks g (w + 1) n)
first_by f g w n some e =
    let h = begins_here f w n (f w) refl some in
    let later = follows g w (suc n) w (f w) (window_blocks f (w + 1) (w + suc n - (w + 1))) (sym e ∙ h.octets_are) in
    let count : w + suc n - (w + 1) ≡ n = omega arith in
    (sym later.here, ap (window_blocks f (w + 1)) (sym count) ∙ sym later.later ∙ ap (window_blocks g (w + 1)) count)

first_same : (f g : ℕ → List ℕ) (w n : ℕ) (x y : List ℕ) → f w ≡ x → g w ≡ y → window_blocks f w (suc n) ≡ window_blocks g w (suc n)
    → (f w ≡ g w) × (window_blocks f (w + 1) n ≡ window_blocks g (w + 1) n)
first_same f g w n (x ∷ xs) ys ex ey e = first_by f g w n (λ z. cc) e
first_same f g w n [] (y ∷ ys) ex ey e = let r = first_by g f w n (λ z. cc) (sym e) in (sym r.0, sym r.1)
first_same f g w n [] [] ex ey e =
    (ex ∙ sym ey, sym (blocks_first f w n ∙ ap (λ x. window_block w x ++ window_blocks f (w + 1) n) ex) ∙ e ∙ blocks_first g w n ∙ ap (λ x. window_block w x ++ window_blocks g (w + 1) n) ey)

-- blocks tell the octets of each window
pub blocks_tell : (f g : ℕ → List ℕ) (w n v : ℕ) → window_blocks f w n ≡ window_blocks g w n → w ≤ v → v < w + n → f v ≡ g v
blocks_tell f g w zero v e l h = absurd (omega arith)
blocks_tell f g w (suc n) v e l h =
    let first = first_same f g w n (f w) (g w) refl refl e in
    elim (cases_eq v w) [
      | inl here ↦ ap f here ∙ first.0 ∙ ap g (sym here)
      | inr later ↦ blocks_tell f g (w + 1) n v first.1 (omega arith) (omega arith)
    ]

pub same_bit : (a b : Bool) → one_if a ≡ one_if b → a ≡ b
same_bit true true e = refl
same_bit false false e = refl
same_bit true false e = absurd (omega arith)
same_bit false true e = absurd (omega arith)

-- lists with one bitmap have the same members
pub same_members : (a b : List ℕ) (code : ℕ) → bitmap a ≡ bitmap b → code < 65536 → has a code ≡ has b code
same_members a b code e l =
    let w = code / 256 in let p = code % 256 in
    let in_window : p < 256 = omega arith in
    let code_is : 256 * w + p ≡ code = omega arith in
    let octets : window_of a w ≡ window_of b w = blocks_tell (window_of a) (window_of b) 0 256 w e (omega arith) (omega arith) in
    ap (has a) (sym code_is)
    ∙ same_bit (has a (256 * w + p)) (has b (256 * w + p)) (sym (window_bits a w p in_window) ∙ ap (λ x. bit_in x p) octets ∙ window_bits b w p in_window)
    ∙ ap (has b) code_is

pub has_first : (x : ℕ) (xs : List ℕ) → has (x ∷ xs) x ≡ true
has_first x xs = ap (λ b. b || has xs x) (eq-eqb x x refl)

pub has_later : (x t : ℕ) (xs : List ℕ) → (x ≡ t → ⊥) → has (x ∷ xs) t ≡ has xs t
has_later x t xs n = ap (λ b. b || has xs t) (ne_eqb x t n)

pub above_first : (x : ℕ) (xs : List ℕ) → IsAscending (x ∷ xs) → All (λ t. x < t) xs
above_first x xs up k d l = up zero (suc k) d (omega arith) (omega arith)

pub rest_ascends : (x : ℕ) (xs : List ℕ) → IsAscending (x ∷ xs) → IsAscending xs
rest_ascends x xs up i j d l m = up (suc i) (suc j) d (omega arith) (omega arith)

not_below : (x y : ℕ) (ys : List ℕ) → IsAscending (y ∷ ys) → x < y → has (y ∷ ys) x ≡ false
not_below x y ys up l = has_later y x ys (λ e. omega arith) ∙ has_none ys x (All-weaker (λ t. y < t) (λ t. t ≢ x) (λ t h e. omega arith) ys (above_first y ys up))

not_in_rest : (x : ℕ) (xs : List ℕ) → IsAscending (x ∷ xs) → has xs x ≡ false
not_in_rest x xs up = has_none xs x (All-weaker (λ t. x < t) (λ t. t ≢ x) (λ t h e. omega arith) xs (above_first x xs up))

rest_same : (x y : ℕ) (xs ys : List ℕ) (code : ℕ) → x ≡ y → IsAscending (x ∷ xs) → IsAscending (y ∷ ys) → has (x ∷ xs) code ≡ has (y ∷ ys) code → has xs code ≡ has ys code
rest_same x y xs ys code e up vp same = elim (cases_eq x code) [
  | inl here ↦ ap (has xs) (sym here) ∙ not_in_rest x xs up ∙ sym (not_in_rest y ys vp) ∙ ap (has ys) (sym e ∙ here)
  | inr other ↦ sym (has_later x code xs other) ∙ same ∙ has_later y code ys (λ z. other (e ∙ z))
]

-- ascending codes with the same members are one list
pub one_ascending : (xs ys : List ℕ) → IsAscending xs → IsAscending ys → All (λ t. t < 65536) xs → All (λ t. t < 65536) ys
    → ((code : ℕ) → code < 65536 → has xs code ≡ has ys code) → xs ≡ ys
one_ascending [] [] up vp l m same = refl
one_ascending (x ∷ xs) [] up vp l m same = let e = sym (has_first x xs) ∙ same x (l 0 0 (omega arith)) in absurd cc
one_ascending [] (y ∷ ys) up vp l m same = let e = sym (has_first y ys) ∙ sym (same y (m 0 0 (omega arith))) in absurd cc
one_ascending (x ∷ xs) (y ∷ ys) up vp l m same = elim (cases_order x y) [
  | inl e ↦ (let rest = one_ascending xs ys (rest_ascends x xs up) (rest_ascends y ys vp)
      (All-tail (λ t. t < 65536) x xs l) (All-tail (λ t. t < 65536) y ys m) (λ code small. rest_same x y xs ys code e up vp (same code small)) in cc)
  | inr (inl below) ↦ (let e = sym (has_first x xs) ∙ same x (l 0 0 (omega arith)) ∙ not_below x y ys vp below in absurd cc)
  | inr (inr below) ↦ (let e = sym (has_first y ys) ∙ sym (same y (m 0 0 (omega arith))) ∙ not_below y x xs up below in absurd cc)
]

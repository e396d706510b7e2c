-- Octets without the zeros at their end.
use Rattle.std.proofs.Common.{◌≡◌, ◌≢◌, ℕ, ◌+◌, ◌<◌, ◌≤◌, List, [], ◌∷◌, length, get_or, take, refl, sym, ◌∙◌, arith, zero, suc, inl, inr}
use Rattle.std.proofs.lemmas.List.{ext_get_or, get_or_past, get_or-take, length-take-le}
use Rattle.std.proofs.lemmas.Bool.{cases_lt, cases_order}
use Rattle.rdata_values.specs.Bitmap.{prepended, trimmed}

-- the last octet is not zero
abbrev pub HasNoZeroLast : List ℕ → Type 0
HasNoZeroLast xs = (n : ℕ) → length xs ≡ n + 1 → get_or xs n 0 ≢ 0

at_front : (x : ℕ) (ys : List ℕ) (k : ℕ) → get_or (prepended x ys) k 0 ≡ get_or (x ∷ ys) k 0
at_front zero [] zero = refl
at_front zero [] (suc k) = refl
at_front (suc x) [] k = refl
at_front zero (y ∷ ys) k = refl
at_front (suc x) (y ∷ ys) k = refl

-- each octet is unchanged, if those past the end count as zeros
pub trimmed_at : (xs : List ℕ) (k : ℕ) → get_or (trimmed xs) k 0 ≡ get_or xs k 0
unfolding trimmed
trimmed_at [] k = refl
trimmed_at (x ∷ xs) zero = at_front x (trimmed xs) zero
trimmed_at (x ∷ xs) (suc k) = at_front x (trimmed xs) (suc k) ∙ trimmed_at xs k

front_last : (x : ℕ) (ys : List ℕ) → HasNoZeroLast ys → HasNoZeroLast (prepended x ys)
front_last zero [] h n l = absurd (omega arith)
front_last (suc x) [] h zero l = λ e. absurd (omega arith)
front_last (suc x) [] h (suc n) l = absurd (omega arith)
front_last zero (y ∷ ys) h zero l = absurd (omega arith)
front_last (suc x) (y ∷ ys) h zero l = absurd (omega arith)
front_last zero (y ∷ ys) h (suc n) l = h n (omega arith)
front_last (suc x) (y ∷ ys) h (suc n) l = h n (omega arith)

pub trimmed_last : (xs : List ℕ) → HasNoZeroLast (trimmed xs)
unfolding trimmed
trimmed_last [] n l = absurd (omega arith)
trimmed_last (x ∷ xs) n l = front_last x (trimmed xs) (trimmed_last xs) n l

front_length : (x : ℕ) (ys : List ℕ) → length (prepended x ys) ≤ suc (length ys)
front_length zero [] = omega arith
front_length (suc x) [] = omega arith
front_length zero (y ∷ ys) = omega arith
front_length (suc x) (y ∷ ys) = omega arith

pub trimmed_length : (xs : List ℕ) → length (trimmed xs) ≤ length xs
unfolding trimmed
trimmed_length [] = omega arith
trimmed_length (x ∷ xs) = omega (arith, front_length x (trimmed xs), trimmed_length xs)

shorter : (xs ys : List ℕ) → HasNoZeroLast ys → ((k : ℕ) → get_or xs k 0 ≡ get_or ys k 0) → length xs < length ys → ⊥
shorter xs [] h same l = omega arith
shorter xs (y ∷ ys) h same l = h (length ys) (omega arith) (sym (same (length ys)) ∙ get_or_past xs (length ys) 0 (omega arith))

-- one list of octets with no zero at its end has these octets
pub one_list : (xs ys : List ℕ) → HasNoZeroLast xs → HasNoZeroLast ys → ((k : ℕ) → get_or xs k 0 ≡ get_or ys k 0) → xs ≡ ys
one_list xs ys hx hy same = elim (cases_order (length xs) (length ys)) [
  | inl e ↦ ext_get_or 0 xs ys e (λ k _. same k)
  | inr (inl l) ↦ absurd (shorter xs ys hy same l)
  | inr (inr l) ↦ absurd (shorter ys xs hx (λ k. sym (same k)) l)
]

-- the octets up to the last that is not zero
pub front_is_trimmed : (xs : List ℕ) (n : ℕ) → n ≤ length xs → ((k : ℕ) → n ≤ k → get_or xs k 0 ≡ 0)
    → ((m : ℕ) → n ≡ m + 1 → get_or xs m 0 ≢ 0) → take n xs ≡ trimmed xs
front_is_trimmed xs n l zeros last =
    one_list (take n xs) (trimmed xs)
    (λ m e. let n_is : n ≡ m + 1 = sym (length-take-le n xs l) ∙ e in λ z. last m n_is (sym (get_or-take n xs m 0 (omega arith)) ∙ z))
    (trimmed_last xs)
    (λ k. (elim (cases_lt k n) [
      | inl below ↦ get_or-take n xs k 0 below
      | inr above ↦ get_or_past (take n xs) k 0 (omega (arith, length-take-le n xs l)) ∙ sym (zeros k above)
    ])
    ∙ sym (trimmed_at xs k))

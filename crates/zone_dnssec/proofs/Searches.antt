-- Searches in parts of a list.
use Rattle.std.proofs.Common.{ℕ, zero, suc, ◌≡◌, Bool, true, false, cond, Some, None, List, [], ◌∷◌, length, take, drop, refl, sym, ap, ◌∙◌, arith}
use Rattle.std.specs.Prelude.{◌&&◌, reverse}
use Rattle.std.specs.List.{AllWithin, find}
use Rattle.std.specs.Option.{option_or}
use Rattle.std.proofs.lemmas.List.{reverse-append}
use Rattle.std.proofs.lemmas.List.Folds.{find-append}

module _ {X : Type 0} (p q : X → Bool) where
  find_all : (xs : List X) → AllWithin (λ x. p x ≡ true) xs 0 (length xs) → find q xs ≡ find (λ x. p x && q x) xs
  find_all [] h = refl
  find_all (x ∷ xs) h =
      ap (λ o. cond (q x) (Some x) o) (find_all xs (λ k d low lt. h (suc k) d (omega arith) (omega arith)))
      ∙ ap (λ b. cond (b && q x) (Some x) (find (λ y. p y && q y) xs)) (sym (h 0 x (omega arith) (omega arith)))

  -- after the index from which on a test passes
  pub find_behind : (xs : List X) (from : ℕ) → AllWithin (λ x. p x ≡ false) xs 0 from → AllWithin (λ x. p x ≡ true) xs from (length xs)
      → find q (drop from xs) ≡ find (λ x. p x && q x) xs
  find_behind xs zero h k = find_all xs k
  find_behind [] (suc n) h k = refl
  find_behind (x ∷ xs) (suc n) h k =
      find_behind xs n (λ i d low lt. h (suc i) d (omega arith) (omega arith)) (λ i d low lt. k (suc i) d (omega arith) (omega arith))
      ∙ ap (λ b. cond (b && q x) (Some x) (find (λ y. p y && q y) xs)) (sym (h 0 x (omega arith) (omega arith)))

  -- ---- from the back

  find_last : (t : X → Bool) (x : X) (xs : List X) → find t (reverse (x ∷ xs)) ≡ option_or (find t (reverse xs)) (cond (t x) (Some x) None)
  find_last t x xs = ap (find t) (reverse-append (x ∷ []) xs) ∙ find-append t (reverse xs) (x ∷ [])

  find_nothing : (xs : List X) → AllWithin (λ x. p x ≡ false) xs 0 (length xs) → find (λ x. p x && q x) (reverse xs) ≡ None
  find_nothing [] h = refl
  find_nothing (x ∷ xs) h =
      find_last (λ y. p y && q y) x xs
      ∙ ap (λ o. option_or o (cond (p x && q x) (Some x) None)) (find_nothing xs (λ k d low lt. h (suc k) d (omega arith) (omega arith)))
      ∙ ap (λ b. cond (b && q x) (Some x) None) (h 0 x (omega arith) (omega arith))

  -- before the index up to which a test passes
  pub find_in_front : (xs : List X) (count : ℕ) → AllWithin (λ x. p x ≡ true) xs 0 count → AllWithin (λ x. p x ≡ false) xs count (length xs)
      → find q (reverse (take count xs)) ≡ find (λ x. p x && q x) (reverse xs)
  find_in_front xs zero h k = sym (find_nothing xs k)
  find_in_front [] (suc n) h k = refl
  find_in_front (x ∷ xs) (suc n) h k =
      find_last q x (take n xs)
      ∙ ap (λ o. option_or o (cond (q x) (Some x) None)) (find_in_front xs n (λ i d low lt. h (suc i) d (omega arith) (omega arith)) (λ i d low lt. k (suc i) d (omega arith) (omega arith)))
      ∙ ap (λ b. option_or (find (λ y. p y && q y) (reverse xs)) (cond (b && q x) (Some x) None)) (sym (h 0 x (omega arith) (omega arith)))
      ∙ sym (find_last (λ y. p y && q y) x xs)

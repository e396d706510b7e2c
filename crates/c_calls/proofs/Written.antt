-- Tokens written over the start of a slice.
use Rattle.std.proofs.Common.{◌≡◌, ◌+◌, ◌-◌, ◌^◌, ◌<◌, ℕ, suc, List, [], ◌∷◌, ◌++◌, length, slice_set, refl, sym, ap, ◌∙◌, arith, ⊎_elim, length-append}
use Rattle.std.specs.Prelude.{min}
use Rattle.std.proofs.lemmas.Bool.{cases_lt}
use Rattle.std.proofs.Math.Seq.{set_out}
use Rattle.dns_octets.specs.Octets.{greatest_length}
use Rattle.c_calls.specs.Entries.{written_over_start, counted}

module _ {A : Type 0} where
  -- one more, at the index after the others
  written_more : (xs old : List A) (x : A) → written_over_start (xs ++ x ∷ []) old ≡ slice_set (written_over_start xs old) (length xs) x
  written_more [] [] x = refl
  written_more [] (y ∷ ys) x = refl
  written_more (z ∷ zs) [] x = refl
  written_more (z ∷ zs) (y ∷ ys) x = ap (λ l. z ∷ l) (written_more zs ys x)

  written_length : (xs old : List A) → length (written_over_start xs old) ≡ length old
  written_length [] old = refl
  written_length (x ∷ xs) [] = refl
  written_length (x ∷ xs) (y ∷ ys) = ap suc (written_length xs ys)

  pub one_more : (xs rest : List A) (x : A) → xs ++ x ∷ rest ≡ (xs ++ x ∷ []) ++ rest
  one_more [] rest x = refl
  one_more (y ∷ ys) rest x = ap (λ l. y ∷ l) (one_more ys rest x)

  -- an index that a `usize` can't hold is past the end, as the greatest one is
  set_counted : (xs : List A) (n : ℕ) (x : A) → length xs < 2 ^ 64 → slice_set xs (counted n) x ≡ slice_set xs n x
  set_counted xs n x few =
      ⊎_elim
      (λ less. let same : counted n ≡ n = omega (arith, less) in ap (λ m. slice_set xs m x) same)
      (λ more. let same : counted n ≡ greatest_length = omega (arith, more) in ap (λ m. slice_set xs m x) same ∙ set_out xs greatest_length x (omega (arith, few))
      ∙ sym (set_out xs n x (omega (arith, few, more))))
      (cases_lt n (2 ^ 64))

  pub put_more : (xs old before : List A) (count : ℕ) (x : A) → before ≡ written_over_start xs old → count ≡ counted (length xs) → length before < 2 ^ 64
      → slice_set before count x ≡ written_over_start (xs ++ x ∷ []) old
  put_more xs old before count x is counts few =
      ap (λ m. slice_set before m x) counts ∙ set_counted before (length xs) x few ∙ ap (λ l. slice_set l (length xs) x) is ∙ sym (written_more xs old x)

  pub count_more : (xs : List A) (count next : ℕ) (x : A) → count ≡ counted (length xs) → next ≡ min (count + 1) (2 ^ 64 - 1) → next ≡ counted (length (xs ++ x ∷ []))
  count_more xs count next x counts is =
      let long : length (xs ++ x ∷ []) ≡ length xs + 1 = length-append xs (x ∷ []) in
      omega (arith, counts, is, long)

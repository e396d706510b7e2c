-- A loop that searches the chains of a zone.
use Rattle.std.proofs.Common.{ℕ, zero, suc, ◌≡◌, ◌+◌, ◌<◌, ◌≤◌, Bool, false, true, Option, Some, None, List, [], ◌∷◌, length, take, get_or, refl, sym, ap, ◌∙◌, arith}
use Rattle.std.specs.Prelude.{◌||◌, is_some, slice_get}
use Rattle.std.specs.List.{list_any}
use Rattle.std.specs.Option.{option_map_or}
use Rattle.std.proofs.lemmas.Bool.{false≢true}
use Rattle.std.proofs.lemmas.Option.{get_or_from_slice_get}
use Rattle.zone_dnssec.proofs.ChainLinks.{get_some}
use Rattle.std.proofs.lemmas.List.{take_more}
use Rattle.std.proofs.lemmas.List.Folds.{list_any-append}

pub or_false : (b : Bool) → (b || false) ≡ b
or_false true = refl
or_false false = refl

-- the items so far, and the next one
pub any_more : {X : Type 0} (test : X → Bool) (xs : List X) (i : ℕ) (d : X) → i < length xs
    → list_any test (take (i + 1) xs) ≡ (list_any test (take i xs) || test (get_or xs i d))
any_more test xs i d lt =
    ap (list_any test) (take_more xs i d lt) ∙ list_any-append test (take i xs) (get_or xs i d ∷ [])
    ∙ ap (λ b. list_any test (take i xs) || b) (or_false (test (get_or xs i d)))

-- ---- a loop that looks for a record

pub or_true : (b : Bool) → true ≡ (b || true)
or_true true = refl
or_true false = refl

module _ {X : Type 0} (test : X → Bool) where
  pub one_found : (xs : List X) (i : ℕ) → option_map_or test (slice_get xs i) false ≡ true → true ≡ list_any test xs
  one_found [] i h = absurd (false≢true h)
  one_found (x ∷ xs) zero h = ap (λ b. b || list_any test xs) (sym h)
  one_found (x ∷ xs) (suc n) h = or_true (test x) ∙ ap (λ b. test x || b) (one_found xs n h)

  pub none_more : (xs : List X) (i : ℕ) → i < length xs → list_any test (take i xs) ≡ false → option_map_or test (slice_get xs i) false ≡ false → list_any test (take (i + 1) xs) ≡ false
  none_more xs i lt so_far h = by (slice_get xs i) refl h
    where
      by : (o : Option X) → slice_get xs i ≡ o → option_map_or test o false ≡ false → list_any test (take (i + 1) xs) ≡ false
      by None q k = absurd (false≢true (sym (ap is_some q) ∙ get_some xs i lt))
      by (Some x) q k = any_more test xs i x lt ∙ (λ j. so_far j || (ap test (get_or_from_slice_get xs i x x q) ∙ k) j)

  pub none_at_all : (xs : List X) (i : ℕ) → length xs ≤ i → list_any test (take i xs) ≡ false → false ≡ list_any test xs
  none_at_all [] i le h = refl
  none_at_all (x ∷ xs) zero le h = absurd (omega (arith, le))
  none_at_all (x ∷ xs) (suc n) le h = sym h ∙ ap (λ b. test x || b) (same xs n (omega (arith, le)))
    where
      same : (l : List X) (m : ℕ) → length l ≤ m → list_any test (take m l) ≡ list_any test l
      same [] zero k = refl
      same [] (suc m) k = refl
      same (y ∷ l) zero k = absurd (omega (arith, k))
      same (y ∷ l) (suc m) k = ap (λ b. test y || b) (same l m (omega (arith, k)))

-- Nesting, step by step.
use Rattle.std.proofs.Common.{◌≡◌, ℕ, suc, ◌-◌, ◌<◌, true, List, ◌∷◌, refl, subst, arith}
use Rattle.dns_zone.specs.Layout.{Step, token, begin, end, comment, newline}
use Rattle.dns_zone.specs.Nesting.{is_nested}
use Rattle.dns_zone.specs.Forming.{both_true, both_parts, some_test, none_test, from_some_test, from_none_test}
use Rattle.dns_zone.specs.Writers.{opened}

-- a list nests after n open blocks if its first step is allowed there, and the rest nests after it
pub nested_more : (n : ℕ) (x : Step) (xs : List Step) → (x ≡ end → 0 < n) → (x ≡ newline → n ≡ 0) → is_nested (opened x n) xs ≡ true → is_nested n (x ∷ xs) ≡ true
nested_more n (token bs) xs p q r = r
nested_more n (comment bs) xs p q r = r
nested_more n begin xs p q r = r
nested_more n end xs p q r = both_true _ _ (some_test n (p refl)) r
nested_more n newline xs p q r = both_true _ _ (none_test n (q refl)) r

pub nested_rest : (n : ℕ) (x : Step) (xs : List Step) → is_nested n (x ∷ xs) ≡ true → is_nested (opened x n) xs ≡ true
nested_rest n (token bs) xs p = p
nested_rest n (comment bs) xs p = p
nested_rest n begin xs p = p
nested_rest n end xs p = (both_parts _ _ p).1
nested_rest n newline xs p = (both_parts _ _ p).1

pub nested_end : (n : ℕ) (x : Step) (xs : List Step) → is_nested n (x ∷ xs) ≡ true → x ≡ end → 0 < n
nested_end n x xs p e = from_some_test n (both_parts _ _ (subst (λ (y : Step). is_nested n (y ∷ xs) ≡ true) e p)).0

pub nested_newline : (n : ℕ) (x : Step) (xs : List Step) → is_nested n (x ∷ xs) ≡ true → x ≡ newline → n ≡ 0
nested_newline n x xs p e = from_none_test n (both_parts _ _ (subst (λ (y : Step). is_nested n (y ∷ xs) ≡ true) e p)).0

-- into a block, and out of it
pub nested_in : (n : ℕ) (xs : List Step) → is_nested n (begin ∷ xs) ≡ true → is_nested (suc n) xs ≡ true
nested_in n xs p = subst (λ (k : ℕ). is_nested k xs ≡ true) (omega arith) p

pub nested_out : (n : ℕ) (xs : List Step) → is_nested (suc n) (end ∷ xs) ≡ true → is_nested n xs ≡ true
nested_out n xs p =
    let e : suc n - 1 ≡ n = omega arith in
    subst (λ (k : ℕ). is_nested k xs ≡ true) e (nested_rest (suc n) end xs p)

-- Documents whose blocks nest, and well-formed ones, made of others: lemmas for values that are made of others.
use Rattle.std.proofs.Common.{◌≡◌, ℕ, ◌+◌, ◌-◌, ◌<◌, ◌==◌, ◌&&◌, nat_lt, Bool, true, false, List, [], ◌∷◌, ◌++◌, refl, subst, sym, arith}
use Rattle.std.proofs.lemmas.Bool.Decides.{nat_tests}
use Rattle.std.specs.List.{All, AllByRecursion}
use Rattle.std.proofs.lemmas.List.Elements.{All-head, All-tail}
use Rattle.dns_zone.specs.Documents.{IsProper, IsWellFormed}
use Rattle.dns_zone.specs.Layout.{Step, token, begin, end, comment, newline}
use Rattle.dns_zone.specs.Nesting.{is_nested, IsNested, has_line, lines_of}

pub both_true : (a b : Bool) → a ≡ true → b ≡ true → (a && b) ≡ true
both_true true b p q = q
both_true false b p q = p

pub both_parts : (a b : Bool) → (a && b) ≡ true → (a ≡ true) × (b ≡ true)
both_parts true b p = (refl, p)
both_parts false b p = cc

pub some_test : (n : ℕ) → 0 < n → nat_lt 0 n ≡ true
some_test n h = grind (arith, nat_tests)

pub from_some_test : (n : ℕ) → nat_lt 0 n ≡ true → 0 < n
from_some_test n h = grind (arith, nat_tests)

pub from_none_test : (n : ℕ) → (n == 0) ≡ true → n ≡ 0
from_none_test n h = grind (arith, nat_tests)

pub none_test : (n : ℕ) → n ≡ 0 → (n == 0) ≡ true
none_test n h = grind (arith, nat_tests)

-- one document after another
pub nested_append : (n : ℕ) (xs ys : List Step) → is_nested n xs ≡ true → IsNested ys → is_nested n (xs ++ ys) ≡ true
nested_append n [] ys p q = subst (λ (k : ℕ). is_nested k ys ≡ true) (sym (from_none_test n p)) q
nested_append n (token bs ∷ xs) ys p q = nested_append n xs ys p q
nested_append n (comment bs ∷ xs) ys p q = nested_append n xs ys p q
nested_append n (begin ∷ xs) ys p q = nested_append (n + 1) xs ys p q
nested_append n (end ∷ xs) ys p q = let r = both_parts _ _ p in both_true _ _ r.0 (nested_append (n - 1) xs ys r.1 q)
nested_append n (newline ∷ xs) ys p q = let r = both_parts _ _ p in both_true _ _ r.0 (nested_append n xs ys r.1 q)

nested_before_end : (n : ℕ) (xs : List Step) → is_nested n xs ≡ true → has_line xs ≡ false → is_nested (n + 1) (xs ++ end ∷ []) ≡ true
nested_before_end n [] p q = both_true _ _ (some_test (n + 1) (omega arith)) (none_test (n + 1 - 1) (omega (arith, from_none_test n p)))
nested_before_end n (token bs ∷ xs) p q = nested_before_end n xs p q
nested_before_end n (comment bs ∷ xs) p q = nested_before_end n xs p q
nested_before_end n (begin ∷ xs) p q = nested_before_end (n + 1) xs p q
nested_before_end n (end ∷ xs) p q =
    let r = both_parts _ _ p in
    let h = from_some_test n r.0 in
    let e : n - 1 + 1 ≡ n + 1 - 1 = omega arith in
    both_true _ _ (some_test (n + 1) (omega arith)) (subst (λ (k : ℕ). is_nested k (xs ++ end ∷ []) ≡ true) e (nested_before_end (n - 1) xs r.1 q))
nested_before_end n (newline ∷ xs) p q = cc

-- a document with no line end, in a block
pub nested_in_block : (xs : List Step) → IsNested xs → has_line xs ≡ false → IsNested (begin ∷ (xs ++ end ∷ []))
nested_in_block xs p q = nested_before_end 0 xs p q

-- documents one after another, each with a line end
pub nested_lines : {T : Type 0} (document : T → List Step) → ((x : T) → IsNested (document x)) → (xs : List T) → IsNested (lines_of document xs)
nested_lines document h [] = refl
nested_lines document h (x ∷ xs) = nested_append 0 (document x ++ newline ∷ []) (lines_of document xs) (nested_append 0 (document x) (newline ∷ []) (h x) refl) (nested_lines document h xs)

-- no line end in either of two documents, none in both
pub no_line_append : (xs ys : List Step) → has_line xs ≡ false → has_line ys ≡ false → has_line (xs ++ ys) ≡ false
no_line_append [] ys p q = q
no_line_append (token bs ∷ xs) ys p q = no_line_append xs ys p q
no_line_append (comment bs ∷ xs) ys p q = no_line_append xs ys p q
no_line_append (begin ∷ xs) ys p q = no_line_append xs ys p q
no_line_append (end ∷ xs) ys p q = no_line_append xs ys p q
no_line_append (newline ∷ xs) ys p q = cc

pub proper_append : (xs ys : List Step) → AllByRecursion IsProper xs → AllByRecursion IsProper ys → AllByRecursion IsProper (xs ++ ys)
proper_append [] ys p q = q
proper_append (x ∷ xs) ys p q = (p.0, proper_append xs ys p.1 q)

-- one document after another
pub formed_append : (xs ys : List Step) → IsWellFormed xs → IsWellFormed ys → IsWellFormed (xs ++ ys)
formed_append xs ys p q = (nested_append 0 xs ys p.0 q.0, proper_append xs ys p.1 q.1)

-- documents one after another, each with a line end
pub formed_lines : {T : Type 0} (document : T → List Step) (holds : T → Type 0) → ((x : T) → holds x → IsWellFormed (document x))
    → (xs : List T) → All holds xs → IsWellFormed (lines_of document xs)
formed_lines document holds is [] h = (refl, tt)
formed_lines document holds is (x ∷ xs) h =
    formed_append (document x ++ newline ∷ []) (lines_of document xs) (formed_append (document x) (newline ∷ []) (is x (All-head holds x xs h)) (refl, (tt, tt)))
    (formed_lines document holds is xs (All-tail holds x xs h))

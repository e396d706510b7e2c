-- What is not before the last of the first ones changes none of them.
use Rattle.std.proofs.Common.{◌≡◌, ℕ, zero, suc, ◌<◌, ◌≤◌, Bool, false, cond, List, [], ◌∷◌, ◌++◌, length, take, get_or, refl, sym, ap, subst, ◌∙◌, arith}
use Rattle.std.specs.Cmp.{IsStrictWeakOrder}
use Rattle.std.specs.List.{AllByRecursion}
use Rattle.std.proofs.lemmas.Bool.{cond_both, false_from_ne_true, both_ways}
use Rattle.std.proofs.lemmas.List.Elements.{All-from_recursion}
use Rattle.findings.proofs.StableSorts.{Rising, placed, placed_all, placed_append}

all_fewer : {X : Type 0} (P : X → Type 0) (n : ℕ) (l : List X) → AllByRecursion P (take (suc n) l) → AllByRecursion P (take n l)
all_fewer P zero l h = tt
all_fewer P (suc n) [] h = tt
all_fewer P (suc n) (x ∷ xs) h = (h.0, all_fewer P n xs h.1)

module _ {X : Type 0} (lt : X → X → Bool) where
  one_longer : (f : X) (l : List X) → length (placed lt f l) ≡ suc (length l)
  one_longer f [] = refl
  one_longer f (x ∷ xs) =
      cond_both (lt f x) (f ∷ x ∷ xs) (x ∷ placed lt f xs) (λ l. length l ≡ suc (suc (length xs)))
      (λ _. refl) (λ _. ap (λ n. suc n) (one_longer f xs))

  -- what is before none of the first ones goes after them
  placed_after : (n : ℕ) (f : X) (l : List X) → n ≤ length l → AllByRecursion (λ x. lt f x ≡ false) (take n l) → take n (placed lt f l) ≡ take n l
  placed_after zero f l long h = refl
  placed_after (suc n) f [] long h = absurd (omega (arith, long))
  placed_after (suc n) f (x ∷ xs) long h =
      ap (λ b. take (suc n) (cond b (f ∷ x ∷ xs) (x ∷ placed lt f xs))) h.0 ∙ ap (λ l. x ∷ l) (placed_after n f xs (omega (arith, long)) h.1)

  module _ (o : IsStrictWeakOrder lt) where
    -- the first ones stay where they are or get nearer to the front
    still : (n : ℕ) (last g : X) (l : List X) → n ≤ length l → AllByRecursion (λ x. lt last x ≡ false) (take n l) → AllByRecursion (λ x. lt last x ≡ false) (take n (placed lt g l))
    still zero last g l long h = tt
    still (suc n) last g [] long h = absurd (omega (arith, long))
    still (suc n) last g (x ∷ xs) long h =
        let P : X → Type 0 = λ y. lt last y ≡ false in
        cond_both (lt g x) (g ∷ x ∷ xs) (x ∷ placed lt g xs) (λ l. AllByRecursion P (take (suc n) l))
        (λ is. (o.chain last x g h.0 (o.one_way g x is), all_fewer P n (x ∷ xs) h))
        (λ _. (h.0, still n last g xs (omega (arith, long)) h.1))

    still_all : (n : ℕ) (last : X) (l more : List X) → n ≤ length l → AllByRecursion (λ x. lt last x ≡ false) (take n l)
        → (n ≤ length (placed_all lt l more)) × AllByRecursion (λ x. lt last x ≡ false) (take n (placed_all lt l more))
    still_all n last l [] long h = (long, h)
    still_all n last l (g ∷ gs) long h =
        let longer : length (placed lt g l) ≡ suc (length l) = one_longer g l in
        still_all n last (placed lt g l) gs (omega (arith, long, longer)) (still n last g l long h)

    not_before : (f last : X) (l : List X) → lt f last ≡ false → AllByRecursion (λ x. lt last x ≡ false) l → AllByRecursion (λ x. lt f x ≡ false) l
    not_before f last [] e h = tt
    not_before f last (x ∷ xs) e h = (o.chain f last x e h.0, not_before f last xs e h.1)

    pub passed_over : (n : ℕ) (last f : X) (l more : List X) → n ≤ length l → AllByRecursion (λ x. lt last x ≡ false) (take n l) → lt f last ≡ false
        → take n (placed_all lt l (more ++ f ∷ [])) ≡ take n (placed_all lt l more)
    passed_over n last f l more long h e =
        let all = still_all n last l more long h in
        ap (take n) (placed_append lt l more (f ∷ []))
        ∙ placed_after n f (placed_all lt l more) all.0 (not_before f last (take n (placed_all lt l more)) e all.1)

    not_itself : (x : X) → lt x x ≡ false
    not_itself x = false_from_ne_true (lt x x) (λ is. both_ways (lt x x) (o.one_way x x is) is)

    -- the last of the first ones is before none of them
    pub up_to : (n : ℕ) (l : List X) (x : X) → Rising lt l → n < length l → x ≡ get_or l n x → AllByRecursion (λ y. lt x y ≡ false) (take (suc n) l)
    up_to n [] x h inside is = absurd (omega (arith, inside))
    up_to zero (z ∷ zs) x h inside is = (subst (λ w. lt w z ≡ false) (sym is) (not_itself z), tt)
    up_to (suc n) (z ∷ zs) x h inside is = (
      subst (λ w. lt w z ≡ false) (sym is) (All-from_recursion (λ y. lt y z ≡ false) zs h.0 n x (omega (arith, inside))),
      up_to n zs x h.1 (omega (arith, inside)) is,
    )

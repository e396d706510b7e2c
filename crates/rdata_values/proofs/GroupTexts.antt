-- The texts of octets in groups.
use Rattle.std.proofs.Common.{ℕ, zero, suc, ◌≡◌, ◌<◌, ◌+◌, ◌*◌, true, false, List, [], ◌∷◌, ◌++◌, length, take, get_or, refl, sym, arith, ap, ◌∙◌, append_assoc, append-nil}
use Rattle.std.proofs.lemmas.Bool.Decides.{nat_tests}
use Rattle.rdata_values.specs.Eui.{dashed_text}
use Rattle.rdata_values.specs.Hex.{pair_text, marked_pair, begins_group, grouped_text}
use Rattle.rdata_values.specs.Locator.{group_text, locator_text}

-- the text of one octet more
pub groups_more : (size mark place : ℕ) (os : List ℕ) (i : ℕ) → i < length os
    → grouped_text size mark place (take (i + 1) os) ≡ grouped_text size mark place (take i os) ++ marked_pair (begins_group size (place + i)) mark (get_or os i 0)
groups_more size mark place [] i here = absurd (omega (arith, here))
groups_more size mark place (o ∷ os) zero here =
    let e : place + zero ≡ place = omega arith in
    rw e (append-nil (marked_pair (begins_group size place) mark o))
groups_more size mark place (o ∷ os) (suc i) here =
    let e : suc i + 1 ≡ suc (i + 1) = omega arith in
    let at : place + suc i ≡ place + 1 + i = omega arith in
    let first : List ℕ = marked_pair (begins_group size place) mark o in
    rw (e, at)
    (ap (λ text. first ++ text) (groups_more size mark (place + 1) os i (omega (arith, here)))
    ∙ sym (append_assoc first (grouped_text size mark (place + 1) (take i os)) (marked_pair (begins_group size (place + 1 + i)) mark (get_or os i 0))))

each_begins : (place : ℕ) → 0 < place → begins_group 1 place ≡ true
each_begins place some = Prim.grind (arith, nat_tests)

even_begins : (n : ℕ) → begins_group 2 (2 * suc n) ≡ true
even_begins n = Prim.grind (arith, nat_tests)

odd_begins : (n : ℕ) → begins_group 2 (2 * suc n + 1) ≡ false
odd_begins n = Prim.grind (arith, nat_tests)

-- pairs with dashes are groups of one octet
dashes_after : (place o : ℕ) (os : List ℕ) → 0 < place → pair_text 97 o ++ grouped_text 1 45 place os ≡ dashed_text (o ∷ os)
dashes_after place o [] some = refl
dashes_after place o (p ∷ ps) some =
    ap (λ b. pair_text 97 o ++ (marked_pair b 45 p ++ grouped_text 1 45 (place + 1) ps)) (each_begins place some)
    ∙ ap (λ t. pair_text 97 o ++ 45 ∷ t) (dashes_after (place + 1) p ps (omega arith))

pub dashed_groups : (os : List ℕ) → grouped_text 1 45 0 os ≡ dashed_text os
dashed_groups [] = refl
dashed_groups (o ∷ os) = dashes_after 1 o os (omega arith)

-- the groups of a locator have two octets
groups_after : (n m a b : ℕ) (os : List ℕ) → length os ≡ 2 * m → group_text a b ++ grouped_text 2 58 (2 * suc n) os ≡ locator_text (a ∷ b ∷ os)
groups_after n m a b [] even = refl
groups_after n m a b (c ∷ []) even = absurd (omega (arith, even))
groups_after n zero a b (c ∷ d ∷ os) even = absurd (omega (arith, even))
groups_after n (suc m) a b (c ∷ d ∷ os) even =
    let place : 2 * suc n + 1 + 1 ≡ 2 * suc (suc n) = omega arith in
    ap (λ t. group_text a b ++ t) ((λ i. marked_pair (even_begins n i) 58 c ++ (marked_pair (odd_begins n i) 58 d ++ grouped_text 2 58 (place i) os)))
    ∙ ap (λ t. group_text a b ++ 58 ∷ t) (groups_after (suc n) m c d os (omega (arith, even)))

pub locator_groups : (os : List ℕ) → length os ≡ 8 → grouped_text 2 58 0 os ≡ locator_text os
locator_groups [] long = absurd (omega (arith, long))
locator_groups (a ∷ []) long = absurd (omega (arith, long))
locator_groups (a ∷ b ∷ os) long = groups_after 0 3 a b os (omega (arith, long))

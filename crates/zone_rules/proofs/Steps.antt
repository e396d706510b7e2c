-- The loops that collect findings.
use Rattle.std.proofs.Common.{ℕ, zero, suc, ◌≡◌, ◌+◌, ◌-◌, ◌<◌, ◌≤◌, List, [], ◌∷◌, ◌++◌, length, take, get_or, sym, ap, ◌∙◌, arith, append_assoc}
use Rattle.std.specs.List.{flat_map, range_with_len}
use Rattle.std.proofs.lemmas.List.{append-nil, take_more}
use Rattle.std.proofs.lemmas.Grind.{flat_map-append}

-- one element more
pub flat_map_one : {X A : Type 0} (f : X → List A) (xs : List X) (x : X) → flat_map f (xs ++ x ∷ []) ≡ flat_map f xs ++ f x
flat_map_one f xs x = flat_map-append f xs (x ∷ []) ∙ ap (λ l. flat_map f xs ++ l) (append-nil (f x))

-- the elements so far, and the next one
pub found_more : {X A : Type 0} (f : X → List A) (xs : List X) (i : ℕ) (d : X) (old now : List A) → i < length xs → now ≡ old ++ flat_map f (take i xs)
    → now ++ f (get_or xs i d) ≡ old ++ flat_map f (take (i + 1) xs)
found_more f xs i d old now lt h =
    ap (λ l. l ++ f (get_or xs i d)) h
    ∙ append_assoc old (flat_map f (take i xs)) (f (get_or xs i d))
    ∙ ap (λ l. old ++ l) (sym (ap (flat_map f) (take_more xs i d lt) ∙ flat_map_one f (take i xs) (get_or xs i d)))

-- the numbers so far, and the next one
counting_next : (a n : ℕ) → range_with_len a (suc n) ≡ range_with_len a n ++ (a + n) ∷ []
counting_next a zero = let e : a ≡ a + 0 = omega arith in ap (λ j. j ∷ []) e
counting_next a (suc n) =
    let e : a + 1 + n ≡ a + suc n = omega arith in ap (λ l. a ∷ l) (counting_next (a + 1) n ∙ ap (λ j. range_with_len (a + 1) n ++ j ∷ []) e)

pub range_more : {A : Type 0} (f : ℕ → List A) (i : ℕ) → flat_map f (range_with_len 0 (i + 1)) ≡ flat_map f (range_with_len 0 i) ++ f i
range_more f i =
    let one : i + 1 ≡ suc i = omega arith in
    let at : 0 + i ≡ i = omega arith in
    ap (λ n. flat_map f (range_with_len 0 n)) one ∙ ap (flat_map f) (counting_next 0 i) ∙ flat_map_one f (range_with_len 0 i) (0 + i) ∙ ap (λ j. flat_map f (range_with_len 0 i) ++ f j) at

-- one round of the loop over records
pub zone_more : {A : Type 0} (f : ℕ → List A) (i : ℕ) (first old now : List A) → old ≡ first ++ flat_map f (range_with_len 0 i) → now ≡ old ++ f i
    → now ≡ first ++ flat_map f (range_with_len 0 (i + 1))
zone_more f i first old now h e =
    e ∙ ap (λ l. l ++ f i) h ∙ append_assoc first (flat_map f (range_with_len 0 i)) (f i) ∙ ap (λ l. first ++ l) (sym (range_more f i))

-- one round of the loop over the records from an index on
pub part_more : {A : Type 0} (f : ℕ → List A) (first i : ℕ) (before old now : List A) → first ≤ i → old ≡ before ++ flat_map f (range_with_len first (i - first)) → now ≡ old ++ f i
    → now ≡ before ++ flat_map f (range_with_len first (i + 1 - first))
part_more f first i before old now low h e =
    let n = i - first in
    let more : i + 1 - first ≡ suc n = omega (arith, low) in
    let at : first + n ≡ i = omega (arith, low) in
    e ∙ ap (λ l. l ++ f i) h ∙ append_assoc before (flat_map f (range_with_len first n)) (f i)
    ∙ ap (λ l. before ++ l)
    (ap (λ j. flat_map f (range_with_len first n) ++ f j) (sym at) ∙ sym (flat_map_one f (range_with_len first n) (first + n)) ∙ ap (flat_map f) (sym (counting_next first n))
    ∙ ap (λ m. flat_map f (range_with_len first m)) (sym more))

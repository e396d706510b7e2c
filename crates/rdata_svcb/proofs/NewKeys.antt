-- Parameters whose keys differ.
use Rattle.std.proofs.Common.{ℕ, zero, suc, ◌≡◌, ◌≢◌, ◌<◌, cond, List, [], ◌∷◌, ◌++◌, length, get_or, refl, sym, ap, ◌∙◌, arith, Some, None}
use Rattle.std.specs.List.{AllPairs}
use Rattle.std.proofs.lemmas.Bool.{ne_eqb}
use Rattle.std.proofs.lemmas.List.{length-append, get_or-append-add}
use Rattle.rdata_svcb.specs.Params.{value_at}

none_at : (ps : List (ℕ × List ℕ)) (key : ℕ) → ((k : ℕ) (d : ℕ × List ℕ) → k < length ps → (get_or ps k d).0 ≢ key) → value_at ps key ≡ None
none_at [] key h = refl
none_at (q ∷ ps) key h = ap (λ b. cond b (Some q.1) (value_at ps key)) (ne_eqb q.0 key (h 0 q (omega arith))) ∙ none_at ps key (λ k d l. h (suc k) d (omega (arith, l)))

get_front : (xs ys : List (ℕ × List ℕ)) (k : ℕ) (d : ℕ × List ℕ) → k < length xs → get_or (xs ++ ys) k d ≡ get_or xs k d
get_front [] ys k d l = absurd (omega (arith, l))
get_front (x ∷ xs) ys zero d l = refl
get_front (x ∷ xs) ys (suc k) d l = get_front xs ys k d (omega (arith, l))

-- the key of a parameter differs from each of those before it
pub new_of_all : (ps more : List (ℕ × List ℕ)) (p : ℕ × List ℕ) → AllPairs (λ p q. p.0 ≢ q.0) (ps ++ p ∷ more) → value_at ps p.0 ≡ None
new_of_all ps more p once = none_at ps p.0 (λ k d l same. once k (length ps) d l (omega (arith, length-append ps (p ∷ more)))
    (ap (λ (q : ℕ × List ℕ). q.0) (get_front ps (p ∷ more) k d l) ∙ same
    ∙ sym (ap (λ i. (get_or (ps ++ p ∷ more) i d).0) (omega arith) ∙ ap (λ (q : ℕ × List ℕ). q.0) (get_or-append-add ps (p ∷ more) 0 d))))

-- Type 0 in bitmaps.
use Rattle.std.proofs.Common.{ℕ, zero, suc, ◌≡◌, ◌<◌, false, nat_eq, List, [], ◌∷◌, refl, sym, ap, subst, ◌∙◌, arith}
use Rattle.std.specs.Prelude.{All}
use Rattle.std.proofs.lemmas.Bool.Decides.{nat_tests}
use Rattle.std.proofs.lemmas.List.Elements.{All-head, All-tail}
use Rattle.rdata_values.specs.Bitmap.{has, types_of, IsAscending, IsBitmap}
use Rattle.rdata_values.proofs.Telling.{above_first, has_later}
use Rattle.rdata_values.proofs.TypesOf.{types_of_ascending}

above_all : (xs : List ℕ) (t : ℕ) → All (λ u. t < u) xs → has xs 0 ≡ false
above_all [] t h = refl
above_all (x ∷ xs) t h =
    let high = All-head (λ u. t < u) x xs h in
    has_later x 0 xs (λ is. omega (arith, high, is)) ∙ above_all xs t (All-tail (λ u. t < u) x xs h)

-- only the first of ascending types can be 0
pub zero_first : (x : ℕ) (xs : List ℕ) → IsAscending (x ∷ xs) → nat_eq x 0 ≡ has (x ∷ xs) 0
zero_first zero xs up = refl
zero_first (suc x) xs up =
    let none : has (suc x ∷ xs) 0 ≡ false = has_later (suc x) 0 xs (λ is. omega (arith, is)) ∙ above_all xs (suc x) (above_first (suc x) xs up) in
    let apart : nat_eq (suc x) 0 ≡ false = grind (arith, nat_tests) in
    apart ∙ sym none

pub ascending_types : (octets : List ℕ) → IsBitmap octets → IsAscending (types_of octets)
ascending_types octets h = subst (λ o. IsAscending (types_of o)) h.1 (types_of_ascending h.0)

pub first_is_zero : (octets more : List ℕ) (code : ℕ) → IsBitmap octets → types_of octets ≡ code ∷ more → nat_eq code 0 ≡ has (types_of octets) 0
first_is_zero octets more code h is = zero_first code more (subst IsAscending is (ascending_types octets h)) ∙ ap (λ ts. has ts 0) (sym is)

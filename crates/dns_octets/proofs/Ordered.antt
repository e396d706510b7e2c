-- The order of lists where one is a prefix of the other.
use Rattle.std.proofs.Common.{◌≡◌, ℕ, ◌-◌, ◌<◌, List, [], ◌∷◌, length, drop, min, arith, length-drop}
use Rattle.std.specs.Ordering.{nat_cmp}
use Rattle.std.specs.declared.cmp.Ordering.TheVariants.{Less, Equal, Greater}
use Rattle.std.proofs.lemmas.Bool.Decides.{nat_tests}
use Rattle.dns_octets.specs.Lowered.{lowered_order}

less_than : (a b : ℕ) → a < b → nat_cmp a b ≡ Less
less_than a b h = Prim.grind (arith, nat_tests)

equal_to : (a b : ℕ) → a ≡ b → nat_cmp a b ≡ Equal
equal_to a b h = Prim.grind (arith, nat_tests)

greater_than : (a b : ℕ) → b < a → nat_cmp a b ≡ Greater
greater_than a b h = Prim.grind (arith, nat_tests)

-- if one list has ended, the lengths decide
pub order_end : (xs ys : List ℕ) (i : ℕ) → i ≡ min (length xs) (length ys) → nat_cmp (length xs) (length ys) ≡ lowered_order (drop i xs) (drop i ys)
order_end xs ys i ended = by (drop i xs) (drop i ys) (length-drop i xs) (length-drop i ys)
  where
    by : (us vs : List ℕ) → length us ≡ length xs - i → length vs ≡ length ys - i → nat_cmp (length xs) (length ys) ≡ lowered_order us vs
    by [] [] p q = equal_to (length xs) (length ys) (omega (arith, p, q))
    by [] (v ∷ vs) p q = less_than (length xs) (length ys) (omega (arith, p, q))
    by (u ∷ us) [] p q = greater_than (length xs) (length ys) (omega (arith, p, q))
    by (u ∷ us) (v ∷ vs) p q = absurd (omega (arith, p, q))

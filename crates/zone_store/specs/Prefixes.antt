-- The first octets of a key as one number.
use Rattle.std.specs.Prelude.{ℕ, zero, suc, ◌+◌, ◌*◌, ◌^◌, List, [], ◌∷◌, drop, length}
use Rattle.std.specs.Ordering.{nat_cmp, ordering_then}
use Rattle.std.specs.declared.cmp.Ordering.{Ordering}
use Rattle.zone_record.specs.Names.{octet_order}

-- the first `n` octets as a number, the first octet most significant; absent octets count as 0
abbrev pub prefix_number : ℕ → List ℕ → ℕ
prefix_number n [] = 0
prefix_number zero (o ∷ os) = 0
prefix_number (suc n) (o ∷ os) = o * 256 ^ n + prefix_number n os

-- by these numbers
abbrev pub prefix_cmp : ℕ → List ℕ → List ℕ → Ordering
prefix_cmp n a b = nat_cmp (prefix_number n a) (prefix_number n b)

-- by the octets after the first `n`, and then by the lengths
abbrev pub rests_cmp : ℕ → List ℕ → List ℕ → Ordering
rests_cmp n a b = ordering_then (octet_order (drop n a) (drop n b)) (nat_cmp (length a) (length b))

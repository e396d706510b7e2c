-- Equal names, of either kind.
use Rattle.std.proofs.Common.{◌≡◌, true, map, refl}
use Rattle.std.specs.Cmp.Lexicographic.{pointwise_decides, bytes_decides}
use Rattle.dns_octets.specs.Lowered.{lowered}
use Rattle.dns_name.specs.Uncertain.{labels_of, is_absolute, same_uncertain}
use Rattle.dns_name.specs.declared.name.UncertainName.{UncertainName}
use Rattle.dns_name.specs.declared.name.UncertainName.TheVariants.{Absolute, Relative}

module _ {O : Type 0} where
  pub equal_is : (a b : UncertainName O) → same_uncertain a b ≡ true → (is_absolute a ≡ is_absolute b) × (map lowered (labels_of a) ≡ map lowered (labels_of b))
  equal_is (Absolute a) (Absolute b) h = (refl, (pointwise_decides bytes_decides (map lowered a) (map lowered b)).0 h)
  equal_is (Absolute a) (Relative b) h = absurd cc
  equal_is (Relative a) (Absolute b) h = absurd cc
  equal_is (Relative a) (Relative b) h = (refl, (pointwise_decides bytes_decides (map lowered a) (map lowered b)).0 h)

  pub is_equal : (a b : UncertainName O) → (is_absolute a ≡ is_absolute b) × (map lowered (labels_of a) ≡ map lowered (labels_of b)) → same_uncertain a b ≡ true
  is_equal (Absolute a) (Absolute b) h = (pointwise_decides bytes_decides (map lowered a) (map lowered b)).1 h.1
  is_equal (Absolute a) (Relative b) h = let e = h.0 in absurd cc
  is_equal (Relative a) (Absolute b) h = let e = h.0 in absurd cc
  is_equal (Relative a) (Relative b) h = (pointwise_decides bytes_decides (map lowered a) (map lowered b)).1 h.1

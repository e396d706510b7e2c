-- Records of other owners or types are not equal.
use Rattle.std.proofs.Common.{ℕ, ◌≡◌, false, refl, sym, ◌∙◌, arith}
use Rattle.std.specs.Prelude.{◌==◌}
use Rattle.std.specs.Ordering.{is_eq, nat_cmp, ordering_then}
use Rattle.std.specs.declared.cmp.Ordering.{Ordering}
use Rattle.std.specs.declared.cmp.Ordering.TheVariants.{Less, Equal, Greater}
use Rattle.std.proofs.lemmas.Bool.Decides.{nat_tests}
use Rattle.dns_wire.specs.Order.{same_name}
use Rattle.zone_record.specs.Names.{name_order}
use Rattle.zone_record.specs.declared.record.Record.{Record}
use Rattle.zone_rules.specs.Zones.{is_equal_record, type_of}
use Rattle.zone_rules.proofs.Lookups.{same_is}

number_tied : (m n : ℕ) → (m == n) ≡ is_eq (nat_cmp m n)
number_tied m n = Prim.grind (arith, nat_tests)

second_not : (q r s : Ordering) → is_eq r ≡ false → is_eq (ordering_then q (ordering_then r s)) ≡ false
second_not Less r s h = refl
second_not Greater r s h = refl
second_not Equal Less s h = refl
second_not Equal Greater s h = refl
second_not Equal Equal s h = cc

third_not : (p q r s : Ordering) → is_eq r ≡ false → is_eq (ordering_then p (ordering_then q (ordering_then r s))) ≡ false
third_not Less q r s h = refl
third_not Greater q r s h = refl
third_not Equal q r s h = second_not q r s h

-- records of other types are not equal
pub other_type : {N O M P : Type 0} (a : Record N O) (b : Record M P) → (type_of a == type_of b) ≡ false → is_equal_record a b ≡ false
other_type a b h = third_not _ _ (nat_cmp (type_of a) (type_of b)) _ (sym (number_tied (type_of a) (type_of b)) ∙ h)

first_not : (p q : Ordering) → is_eq p ≡ false → is_eq (ordering_then p q) ≡ false
first_not Less q h = refl
first_not Greater q h = refl
first_not Equal q h = cc

-- nor are those of other owners
pub other_owner : {N O M P : Type 0} (a : Record N O) (b : Record M P) → same_name a.owner b.owner ≡ false → is_equal_record a b ≡ false
other_owner a b h = first_not (name_order a.owner b.owner) _ (sym (same_is a.owner b.owner) ∙ h)

-- The order of records in a store is the canonical one.
use Rattle.std.proofs.Common.{ℕ, ◌≡◌, List, [], ◌∷◌, refl, sym, ap, ◌∙◌, subst, arith}
use Rattle.std.specs.Prelude.{map, reverse}
use Rattle.std.specs.Ordering.{nat_cmp, ordering_then}
use Rattle.std.specs.declared.cmp.Ordering.{Ordering}
use Rattle.std.specs.declared.cmp.Ordering.TheVariants.{Less, Equal, Greater}
use Rattle.std.specs.Cmp.Lexicographic.{slice_cmp}
use Rattle.std.proofs.lemmas.Bool.Decides.{nat_tests}
use Rattle.dns_octets.specs.Lowered.{lowered}
use Rattle.zone_record.specs.KeyNames.{key_name}
use Rattle.zone_record.specs.Keys.{order_key}
use Rattle.zone_record.specs.Names.{labels_from_root, name_order, octet_order}
use Rattle.zone_record.specs.CanonicalRecords.{record_order}
use Rattle.zone_record.proofs.KeyNames.{name_read}
use Rattle.zone_record.proofs.KeyOrders.{key_order}
use Rattle.zone_record.proofs.LoweredNames.{lowered_again}
use Rattle.zone_record.proofs.NameOrders.{then_assoc}
use Rattle.zone_record.specs.AnyData.{any_data_order}
use Rattle.zone_record.specs.CanonicalData.{canonical_data}
use Rattle.zone_record.specs.TypeData.{IsTypeData}
use Rattle.zone_record.proofs.AnyOrders.{any_canonical}
use Rattle.zone_store.specs.Canonical.{AreInCanonicalOrder, IsValidRecord, sort_key}
use Rattle.zone_store.specs.Stored.{AddedRecord, stored_order}

one_number : (m n : ℕ) → nat_cmp m n ≡ Equal → m ≡ n
one_number m n h = Prim.grind (arith, nat_tests)

all_again : (labels : List (List ℕ)) → map lowered (map lowered labels) ≡ map lowered labels
all_again [] = refl
all_again (l ∷ labels) = λ i. lowered_again l i ∷ all_again labels i

-- the order of keys is that of the names that have them
pub key_names_order : (k l : List ℕ) (a b : List (List ℕ)) → k ≡ order_key a → l ≡ order_key b → octet_order k l ≡ name_order (key_name k) (key_name l)
key_names_order k l a b p q =
    (λ i. octet_order (p i) (q i)) ∙ sym (key_order a b)
    ∙ (λ i. slice_cmp octet_order (reverse (sym (all_again a) i)) (reverse (sym (all_again b) i)))
    ∙ (λ i. name_order (sym (name_read a) i) (sym (name_read b) i))
    ∙ (λ i. name_order (key_name (sym p i)) (key_name (sym q i)))

data_order : (m n : ℕ) (a b : List ℕ) → IsTypeData m a → IsTypeData n b
    → ordering_then (nat_cmp m n) (any_data_order m a b) ≡ ordering_then (nat_cmp m n) (octet_order (canonical_data m a) (canonical_data n b))
data_order m n a b p q = by (nat_cmp m n) refl
  where
    by : (o : Ordering) → nat_cmp m n ≡ o → ordering_then o (any_data_order m a b) ≡ ordering_then o (octet_order (canonical_data m a) (canonical_data n b))
    by Less e = refl
    by Equal e =
        let same : m ≡ n = one_number m n e in
        any_canonical m a b p (subst (λ t. IsTypeData t b) (sym same) q) ∙ (λ i. octet_order (canonical_data m a) (canonical_data (same i) b))
    by Greater e = refl

pub canonical_order : (a b : AddedRecord) → AreInCanonicalOrder a b
canonical_order a b p q =
    let class = nat_cmp a.parts.class b.parts.class in
    let code = nat_cmp a.parts.code b.parts.code in
    (λ i. ordering_then (key_names_order a.key b.key p.owner.0 q.owner.0 p.owner.1 q.owner.1 i)
    (then_assoc class code (any_data_order a.parts.code a.parts.rdata b.parts.rdata) i))
    ∙ ap (λ o. ordering_then (name_order (key_name a.key) (key_name b.key)) (ordering_then class o)) (data_order a.parts.code b.parts.code a.parts.rdata b.parts.rdata p.rdata q.rdata)

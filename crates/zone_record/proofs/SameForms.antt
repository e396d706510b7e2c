-- Records are equal in order if their canonical forms are the same.
use Rattle.std.proofs.Common.{ℕ, ◌≡◌, ◌<◌, ◌^◌, ◌/◌, ◌%◌, List, ◌++◌, drop, ap, arith, get_or}
use Rattle.std.specs.Prelude.{◌↔◌}
use Rattle.std.specs.Cmp.{IsTotalOrder}
use Rattle.std.specs.declared.cmp.Ordering.TheVariants.{Equal}
use Rattle.std.proofs.lemmas.Cmp.{nat_cmp_total, on_total, then_total}
use Rattle.dns_octets.specs.Lowered.{lowered}
use Rattle.dns_wire.specs.Wire.{wire}
use Rattle.rdata_fields.specs.declared.field.Field.TheVariants.{Name as OfName}
use Rattle.zone_record.specs.CanonicalRecords.{record_order}
use Rattle.zone_record.proofs.LoweredNames.{lowered_name}
use Rattle.zone_record.proofs.Orders.{octets_total, names_tied, records_tied}
use Rattle.zone_record.specs.CanonicalData.{record_after_owner, canonical_data, canonical_with_ttl, data_order, record_key}
use Rattle.zone_record.specs.Records.{data_of}
use Rattle.zone_record.specs.RecordLaws.{AreRecordValues}
use Rattle.zone_record.specs.declared.record.Record.{Record}
use Rattle.zone_record.proofs.CanonicalOrders.{front_same}

pub data_total : IsTotalOrder data_order
data_total = then_total (on_total (λ d. d.rtype) nat_cmp_total) (on_total (λ d. canonical_data d.rtype d.octets) octets_total)

same_number : (a b : ℕ) → a < 2 ^ 16 → b < 2 ^ 16 → a / 256 % 256 ≡ b / 256 % 256 → a % 256 ≡ b % 256 → a ≡ b
same_number a b p q h k = omega (arith, p, q, h, k)

-- what follows the owner has the same numbers and RDATA
record AreSame (rtype others class classes : ℕ) (form other : List ℕ) : Type 0 where
  pub codes : rtype ≡ others
  pub both : class ≡ classes
  pub forms : form ≡ other

same_behind : (rtype others class classes ttl : ℕ) (form other : List ℕ) → rtype < 2 ^ 16 → others < 2 ^ 16 → class < 2 ^ 16 → classes < 2 ^ 16 → record_after_owner rtype class ttl form ≡ record_after_owner others classes ttl other
    → AreSame rtype others class classes form other
same_behind rtype others class classes ttl form other p q r s e = record {
  codes = same_number rtype others p q (ap (λ l. get_or l 0 0) e) (ap (λ l. get_or l 1 0) e);
  both = same_number class classes r s (ap (λ l. get_or l 2 0) e) (ap (λ l. get_or l 3 0) e);
  forms = ap (drop 10) e;
}

module _ {N O M P : Type 0} (a : Record N O) (b : Record M P) (p : AreRecordValues a) (q : AreRecordValues b) (ttl : ℕ) where
  tied_from_forms : canonical_with_ttl ttl a ≡ canonical_with_ttl ttl b → record_order (record_key a) (record_key b) ≡ Equal
  tied_from_forms e =
      let first = lowered (wire a.owner) in
      let second = lowered (wire b.owner) in
      let parts = front_same OfName first second (record_after_owner (data_of a).rtype a.class ttl (canonical_data (data_of a).rtype (data_of a).octets)) (record_after_owner (data_of b).rtype b.class ttl (canonical_data (data_of b).rtype (data_of b).octets))
      (lowered_name (wire a.owner) p.owner) (lowered_name (wire b.owner) q.owner) e in
      let rest = same_behind (data_of a).rtype (data_of b).rtype a.class b.class ttl (canonical_data (data_of a).rtype (data_of a).octets) (canonical_data (data_of b).rtype (data_of b).octets) p.type q.type p.class q.class parts.1 in
      (records_tied (record_key a) (record_key b)).1 ((names_tied a.owner b.owner p.owner_is q.owner_is).1 parts.0, rest.both, rest.codes, rest.forms)

  forms_from_tied : record_order (record_key a) (record_key b) ≡ Equal → canonical_with_ttl ttl a ≡ canonical_with_ttl ttl b
  forms_from_tied h =
      let t = (records_tied (record_key a) (record_key b)).0 h in
      let owner : lowered (wire a.owner) ≡ lowered (wire b.owner) = (names_tied a.owner b.owner p.owner_is q.owner_is).0 t.0 in
      λ i. owner i ++ record_after_owner (t.2 i) (t.1 i) ttl (t.3 i)

  pub tied_by_form : (record_order (record_key a) (record_key b) ≡ Equal) ↔ (canonical_with_ttl ttl a ≡ canonical_with_ttl ttl b)
  tied_by_form = (forms_from_tied, tied_from_forms)

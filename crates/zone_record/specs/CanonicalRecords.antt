-- The order of records.
use Rattle.std.specs.Prelude.{◌≡◌, ℕ, List}
use Rattle.std.specs.Ordering.{nat_cmp, on, then_cmp}
use Rattle.std.specs.declared.cmp.Ordering.{Ordering}
use Rattle.dns_wire.specs.Wire.{wire}
use Rattle.rdata_values.specs.declared.classes.Class.{Class}
use Rattle.rdata_values.specs.declared.types.RecordType.{RecordType}
use Rattle.zone_record.specs.Names.{name_order, octet_order}
use Rattle.rdata_fields.specs.declared.record_ref.RecordRef.{RecordRef}

-- the parts by which records are sorted: the labels of the owner, the class and type, and the octets of the RDATA
pub record RecordKey : Type 0 where
  pub owner : List (List ℕ)
  pub class : Class
  pub rtype : RecordType
  pub octets : List ℕ

-- by the owner, then by the class, then by the type, then by the RDATA
abbrev pub record_order : RecordKey → RecordKey → Ordering
record_order =
    then_cmp (on (λ k. k.owner) name_order) (then_cmp (on (λ k. k.class) nat_cmp) (then_cmp (on (λ k. k.rtype) nat_cmp) (on (λ k. k.octets) octet_order)))

-- the parts by which a record is sorted, if its owner has these labels
abbrev pub key_of : List (List ℕ) → RecordRef → RecordKey
key_of labels parts = record { owner = labels; class = parts.class; rtype = parts.rtype; octets = parts.data.now }

-- the order of the records that have these parts
abbrev pub IsRecordOrder : RecordRef → RecordRef → Ordering → Type 0
IsRecordOrder left right order = (a b : List (List ℕ)) → left.owner.now ≡ wire a → right.owner.now ≡ wire b → order ≡ record_order (key_of a left) (key_of b right)

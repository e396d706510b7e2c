-- The record of an entry that was read.
use Rattle.std.specs.Prelude.{◌≡◌, ℕ, List, Option, IfSome, MatchOption, None}
use Rattle.rdata_fields.specs.declared.record_ref.RecordRef.{RecordRef}
use Rattle.rdata_values.specs.declared.classes.Class.{Class}
use Rattle.rdata_values.specs.declared.types.RecordType.{RecordType}
use Rattle.dns_wire.specs.Wire.{wire}
use Rattle.zone_reader.specs.Past.{known_name, seconds_of}
use Rattle.zone_reader.specs.declared.entry.ParsedEntry.{ParsedEntry}
use Rattle.zone_reader.specs.declared.entry.ParsedEntry.TheVariants.{Record}
use Rattle.zone_reader.specs.declared.known.NameState.TheVariants.{Name}
use Rattle.zone_reader.specs.declared.state.State.{State}
use Rattle.zone_reader.specs.declared.ttl.RecordTtl.{RecordTtl}

-- a record has an owner of these labels, and the TTL, class, type and data of its entry
pub record IsRecordOfEntry (labels : List (List ℕ)) (ttl : RecordTtl) (class : Class) (rtype : RecordType) (octets : List ℕ) (r : RecordRef) : Type 0 where
  pub owner : r.owner.now ≡ wire labels
  pub ttl_is : r.ttl ≡ seconds_of ttl
  pub class_is : r.class ≡ class
  pub rtype_is : r.rtype ≡ rtype
  pub data_is : r.«data».now ≡ octets

-- the record has the owner that the state knows, and is returned if the state knows one; nothing else is returned
abbrev pub ReturnsRecord : State → ParsedEntry → List ℕ → Option RecordRef → Type 0
ReturnsRecord state (Record at data_at end ttl class rtype) octets given =
    MatchOption given (known_name state.owner ≡ None) (λ r. (labels : List (List ℕ)) × (state.owner ≡ Name labels) × IsRecordOfEntry labels ttl class rtype octets r)
ReturnsRecord state _ octets given = IfSome given (λ r. ⊥)

-- Records and their octets.
use Rattle.std.specs.Prelude.{◌≡◌}
use Rattle.dns_wire.specs.Wire.{wire}
use Rattle.rdata_tokens.specs.NameSpelling.{IsWireName}
use Rattle.rdata_fields.specs.declared.record_ref.RecordRef.{RecordRef}
use Rattle.zone_record.specs.Records.{data_of}
use Rattle.zone_record.specs.TypeData.{IsTypeData}
use Rattle.zone_record.specs.declared.record.Record.{Record}

-- a record has these octets and numbers
pub record IsRecordOf {N O : Type 0} (octets : RecordRef) (r : Record N O) : Type 0 where
  pub owner : octets.owner.now ≡ wire r.owner
  pub ttl : r.ttl ≡ octets.ttl
  pub class : r.class ≡ octets.class
  pub rtype : (data_of r).rtype ≡ octets.rtype
  pub data_is : (data_of r).octets ≡ octets.«data».now

-- the owner is not a name, or the RDATA is not of the type
abbrev pub IsNoRecord : RecordRef → Type 0
IsNoRecord octets = IsWireName octets.owner.now → IsTypeData octets.rtype octets.«data».now → ⊥

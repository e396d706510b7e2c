-- The serial of SOA data.
use Rattle.std.specs.Prelude.{ℕ, ◌==◌, if◌then◌else◌, Option, None, option_map}
use Rattle.std.specs.Int.{from_be_bytes, w32}
use Rattle.rdata_values.specs.Rtype as Rtype
use Rattle.zone_record.specs.Parts.{data_part}
use Rattle.zone_record.specs.TypeData.{TypeData}

-- the third field of an SOA (RFC 1035 section 3.3.13)
abbrev pub soa_serial : TypeData → Option ℕ
soa_serial d = if d.rtype == Rtype.soa then option_map (from_be_bytes w32) (data_part d 2) else None

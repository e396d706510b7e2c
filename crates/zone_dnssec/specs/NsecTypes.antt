-- The types that an NSEC lists (RFC 4034 section 4.1.2, RFC 4035 section 2.3).
use Rattle.std.specs.Prelude.{ℕ, ◌==◌, ◌&&◌, ◌||◌, not, Bool, List, [], length, drop}
use Rattle.std.specs.List.{list_all, list_any}
use Rattle.std.specs.Option.{option_map_or}
use Rattle.rdata_values.specs.Bitmap.{has, types_of}
use Rattle.dns_wire.specs.Order.{same_name}
use Rattle.rdata_values.specs.Rtype as Rtype
use Rattle.rdata_values.specs.declared.types.RecordType.{RecordType}
use Rattle.zone_record.specs.Parts.{data_part}
use Rattle.zone_record.specs.Records.{data_of}
use Rattle.zone_record.specs.TypeData.{TypeData}
use Rattle.zone_record.specs.declared.record.Record.{Record}
use Rattle.zone_rules.specs.Rules.{is_zone_cut}
use Rattle.zone_rules.specs.Zones.{type_of, has_type_at}
use Rattle.zone_dnssec.specs.SignedSets.{is_authoritative}

-- the bitmap of an NSEC comes after the next name
abbrev pub bitmap_octets : TypeData → List ℕ
bitmap_octets d = option_map_or (λ next. drop (length next) d.octets) (data_part d 0) []

-- at a delegation only NS, DS, RRSIG and NSEC are listed
abbrev pub may_be_at_delegation : RecordType → Bool
may_be_at_delegation rtype = rtype == Rtype.ns || (rtype == Rtype.ds || (rtype == Rtype.rrsig || rtype == Rtype.nsec))

-- a type is listed at a name, which is a delegation or not, if a record there has it
abbrev pub may_be_listed : Bool → RecordType → Bool
may_be_listed is_cut rtype = not is_cut || may_be_at_delegation rtype

abbrev pub has_listed_type : {N O : Type 0} → Bool → List (Record N O) → List (List ℕ) → RecordType → Bool
has_listed_type is_cut records name rtype = may_be_listed is_cut rtype && has_type_at rtype name records

-- a bitmap must list the type of a record, and doesn't
abbrev pub is_unlisted : {N O : Type 0} → Bool → List ℕ → Record N O → Bool
is_unlisted is_cut octets r = may_be_listed is_cut (type_of r) && not (has (types_of octets) (type_of r))

-- the same of some record at a name
abbrev pub lacks_some_type : {N O : Type 0} → Bool → List (Record N O) → List (List ℕ) → List ℕ → Bool
lacks_some_type is_cut records name octets = list_any (λ r. same_name r.owner name && is_unlisted is_cut octets r) records

-- the types that a bitmap lists at a name are exactly those of the records there that it must list
abbrev pub lists_exactly : {N O : Type 0} → Bool → List (Record N O) → List (List ℕ) → List ℕ → Bool
lists_exactly is_cut records name octets = list_all (has_listed_type is_cut records name) (types_of octets) && not (lacks_some_type is_cut records name octets)

-- the types of an NSEC at an authoritative name differ from those at its owner
abbrev pub lists_other_types : {N O M P : Type 0} → List (List ℕ) → List (Record N O) → Record M P → Bool
lists_other_types origin records r =
    type_of r == Rtype.nsec && (is_authoritative origin records r.owner && not (lists_exactly (is_zone_cut origin records r.owner) records r.owner (bitmap_octets (data_of r))))

-- The RRsets of a signed zone that have signatures (RFC 4035 section 2.2).
use Rattle.std.specs.Prelude.{ℕ, ◌==◌, ◌&&◌, ◌||◌, not, Bool, Option, List}
use Rattle.std.specs.List.{list_any}
use Rattle.dns_wire.specs.Order.{same_name}
use Rattle.rdata_values.specs.Rtype as Rtype
use Rattle.rdata_values.specs.declared.types.RecordType.{RecordType}
use Rattle.zone_record.specs.declared.record.Record.{Record}
use Rattle.zone_rules.specs.Above.{is_within}
use Rattle.zone_rules.specs.Rules.{is_below_zone_cut, is_zone_cut, passes_after}
use Rattle.zone_rules.specs.Zones.{type_of, set_type, has_type_at, is_one_set}

-- the zone is authoritative for a name: it is in the zone, and not below a delegation
abbrev pub is_authoritative : {N O : Type 0} → List (List ℕ) → List (Record N O) → List (List ℕ) → Bool
is_authoritative origin records name = is_within name origin && not (is_below_zone_cut origin records name)

-- at a delegation the parent is authoritative for DS and NSEC only
abbrev pub belongs_to_parent : RecordType → Bool
belongs_to_parent rtype = rtype == Rtype.ds || rtype == Rtype.nsec

-- the RRset of the record must be signed: the zone is authoritative for it, and it is not of RRSIGs; NS and glue at a delegation are not signed
abbrev pub must_be_signed : {N O M P : Type 0} → List (List ℕ) → List (Record N O) → Record M P → Bool
must_be_signed origin records r =
    not (type_of r == Rtype.rrsig) && (is_authoritative origin records r.owner && (belongs_to_parent (type_of r) || not (is_zone_cut origin records r.owner)))

-- the record is an RRSIG that covers the type
abbrev pub covers : {N O : Type 0} → RecordType → Record N O → Bool
covers rtype r = type_of r == Rtype.rrsig && set_type r == rtype

-- an RRSIG at a name covers the type
abbrev pub has_signature : {N O : Type 0} → RecordType → List (List ℕ) → List (Record N O) → Bool
has_signature rtype name records = list_any (λ r. same_name r.owner name && covers rtype r) records

-- the record before this one doesn't pass the test with it, or this one is the first
abbrev pub starts : {N O : Type 0} → (Record N O → Record N O → Bool) → Option (Record N O) → Record N O → Bool
starts test before r = not (passes_after test before r)

-- the record is the first of an RRset that must be signed, and that no RRSIG covers
abbrev pub is_missing_signature : {N O M P : Type 0} → List (List ℕ) → List (Record N O) → Option (Record M P) → Record M P → Bool
is_missing_signature origin records before r =
    starts is_one_set before r && (must_be_signed origin records r && not (has_signature (type_of r) r.owner records))

-- an RRSIG covers a type of which its owner has a record
abbrev pub covers_some_set : {N O M P : Type 0} → List (Record N O) → Record M P → Bool
covers_some_set records r = type_of r == Rtype.rrsig && has_type_at (set_type r) r.owner records

-- an RRSIG covers a type of which its owner has no record
abbrev pub signs_nothing : {N O M P : Type 0} → List (Record N O) → Record M P → Bool
signs_nothing records r = type_of r == Rtype.rrsig && not (has_type_at (set_type r) r.owner records)

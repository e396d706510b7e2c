-- Which records of a zone are hashed, and as which octets (RFC 8976 section 3.3).
use Rattle.std.specs.Prelude.{ℕ, Bool, false, not, ◌&&◌, ◌||◌, ◌==◌, nat_eq, List, [], ◌∷◌, filter}
use Rattle.std.specs.Int.{to_be_bytes, w16}
use Rattle.std.specs.List.{flat_map, starts_with}
use Rattle.dns_octets.specs.Lowered.{same_lowered}
use Rattle.dns_wire.specs.Wire.{wire}
use Rattle.rdata_values.specs.Rtype as Rtype
use Rattle.zone_record.specs.CanonicalData.{canonical_record}
use Rattle.zone_record.specs.Records.{data_of}
use Rattle.zone_record.specs.TypeData.{TypeData}
use Rattle.zone_record.specs.declared.record.Record.{Record}

-- a name is the apex, ignoring letter case
abbrev pub is_apex : List (List ℕ) → List (List ℕ) → Bool
is_apex apex name = same_lowered (wire name) (wire apex)

-- a name, or one of its ancestors, is the apex
abbrev pub is_in_zone : List (List ℕ) → List (List ℕ) → Bool
is_in_zone apex [] = false
is_in_zone apex (label ∷ above) = is_apex apex (label ∷ above) || is_in_zone apex above

-- ZONEMD data, or an RRSIG whose first field, the type covered, is ZONEMD
abbrev pub is_of_digest : TypeData → Bool
is_of_digest d = (d.rtype == Rtype.zonemd) || ((d.rtype == Rtype.rrsig) && starts_with nat_eq d.octets (to_be_bytes w16 Rtype.zonemd))

-- every record of the zone is hashed, except at the apex ZONEMD and the RRSIG that covers it
abbrev pub is_hashed : {N O : Type 0} → List (List ℕ) → Record N O → Bool
is_hashed apex r = is_in_zone apex r.owner && not (is_apex apex r.owner && is_of_digest (data_of r))

-- the canonical forms of these records, one after another
abbrev pub hashed_octets : {N O : Type 0} → List (List ℕ) → List (Record N O) → List ℕ
hashed_octets apex records = flat_map canonical_record (filter (is_hashed apex) records)

-- The chain of NSEC records (RFC 4034 section 4, RFC 4035 section 2.3).
use Rattle.std.specs.Prelude.{ℕ, ◌==◌, ◌&&◌, ◌||◌, not, Bool, false, Option, List}
use Rattle.std.specs.List.{find, list_any}
use Rattle.std.specs.Option.{option_map_or}
use Rattle.std.specs.Ordering.{is_le}
use Rattle.dns_octets.specs.Lowered.{same_lowered}
use Rattle.dns_wire.specs.Order.{same_name}
use Rattle.dns_wire.specs.Wire.{wire}
use Rattle.rdata_values.specs.Rtype as Rtype
use Rattle.zone_record.specs.Names.{name_order}
use Rattle.zone_record.specs.Parts.{data_part}
use Rattle.zone_record.specs.Records.{data_of}
use Rattle.zone_record.specs.declared.record.Record.{Record}
use Rattle.zone_rules.specs.Zones.{type_of, has_type_at}
use Rattle.zone_dnssec.specs.Parameters.{has_named_chain}
use Rattle.zone_dnssec.specs.SignedSets.{covers, is_authoritative, starts}

-- two records have the same owner
abbrev pub are_at_one_name : {N O : Type 0} → Record N O → Record N O → Bool
are_at_one_name a b = same_name a.owner b.owner

-- an NSEC3, or a signature of NSEC3s: while a zone changes from NSEC to NSEC3, they are added first (RFC 5155 section 10.4)
abbrev pub is_hashed_denial : {N O : Type 0} → Record N O → Bool
is_hashed_denial r = type_of r == Rtype.nsec3 || covers Rtype.nsec3 r

-- a record for which its name is in the chain: the zone is authoritative for the name, which has more than NSEC3s and their signatures
abbrev pub is_in_chain : {N O M P : Type 0} → List (List ℕ) → List (Record N O) → Record M P → Bool
is_in_chain origin records r = is_authoritative origin records r.owner && not (is_hashed_denial r)

-- a name has a record other than NSEC3s and their signatures
abbrev pub has_more_than_hashes : {N O : Type 0} → List (List ℕ) → List (Record N O) → Bool
has_more_than_hashes name records = list_any (λ r. same_name r.owner name && not (is_hashed_denial r)) records

-- the record is the first at a name of the chain without NSEC, in a zone whose NSEC3PARAMs name no chain
abbrev pub lacks_nsec : {N O M P : Type 0} → List (List ℕ) → List (Record N O) → Option (Record M P) → Record M P → Bool
lacks_nsec origin records before r =
    starts are_at_one_name before r && (not (has_named_chain origin records) && (is_authoritative origin records r.owner && (not (has_type_at Rtype.nsec r.owner records) && has_more_than_hashes r.owner records)))

-- a name comes after another in canonical order (RFC 4034 section 6.1)
abbrev pub comes_after : List (List ℕ) → List (List ℕ) → Bool
comes_after later name = not (is_le (name_order later name))

-- the first record at a name of the chain that comes after another
abbrev pub next_record : {N O : Type 0} → List (List ℕ) → List (Record N O) → List (List ℕ) → Option (Record N O)
next_record origin records name = find (λ r. comes_after r.owner name && is_in_chain origin records r) records

-- the name that comes next, and after the last one the apex
abbrev pub next_name : {N O : Type 0} → List (List ℕ) → List (Record N O) → List (List ℕ) → List (List ℕ)
next_name origin records name = option_map_or (λ r. r.owner) (next_record origin records name) origin

-- the next name of an NSEC at an authoritative name is wrong
abbrev pub names_other_next : {N O M P : Type 0} → List (List ℕ) → List (Record N O) → Record M P → Bool
names_other_next origin records r =
    type_of r == Rtype.nsec && (is_authoritative origin records r.owner && option_map_or (λ octets. not (same_lowered octets (wire (next_name origin records r.owner)))) (data_part (data_of r) 0) false)

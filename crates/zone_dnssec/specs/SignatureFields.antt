-- The fields of an RRSIG about its zone and the RRset that it covers (RFC 4034 section 3.1).
use Rattle.std.specs.Prelude.{ℕ, ◌-◌, if◌then◌else◌, ◌==◌, ◌&&◌, not, Bool, false, List, length, slice_index}
use Rattle.std.specs.List.{list_any}
use Rattle.std.specs.Option.{option_map_or}
use Rattle.dns_octets.specs.Lowered.{same_lowered}
use Rattle.dns_wire.specs.Order.{same_name}
use Rattle.dns_wire.specs.Wire.{wire}
use Rattle.rdata_values.specs.Rtype as Rtype
use Rattle.rdata_values.specs.declared.types.RecordType.{RecordType}
use Rattle.zone_record.specs.Parts.{data_part}
use Rattle.zone_record.specs.Records.{data_of}
use Rattle.zone_record.specs.declared.record.Record.{Record}
use Rattle.zone_rules.specs.Above.{is_wildcard}
use Rattle.zone_rules.specs.Zones.{field_octets, type_of, set_type, has_type_at}
use Rattle.zone_dnssec.specs.SignatureTimes.{number_in}

-- an RRSIG whose signer, the eighth field, is not the zone (RFC 4034 section 3.1.7)
abbrev pub has_other_signer : {N O : Type 0} → List (List ℕ) → Record N O → Bool
has_other_signer origin r = type_of r == Rtype.rrsig && option_map_or (λ signer. not (same_lowered signer (wire origin))) (data_part (data_of r) 7) false

-- the number of labels of a name, without the root and without an asterisk as the first label (RFC 4034 section 3.1.3)
abbrev pub label_count : List (List ℕ) → ℕ
label_count name = length name - (if is_wildcard name then 2 else 1)

-- an RRSIG whose number of labels, the third field, is not that of its owner
abbrev pub has_other_labels : {N O : Type 0} → Record N O → Bool
has_other_labels r = type_of r == Rtype.rrsig && not (slice_index (field_octets 2 r) 0 == label_count r.owner)

-- some record of a type at a name has this TTL
abbrev pub is_ttl_in_set : {N O : Type 0} → ℕ → RecordType → List (List ℕ) → List (Record N O) → Bool
is_ttl_in_set ttl rtype name records = list_any (λ s. same_name s.owner name && (type_of s == rtype && s.ttl == ttl)) records

-- an RRSIG covers an RRset in which no record has this TTL
abbrev pub covers_other_ttl : {N O M P : Type 0} → ℕ → List (Record N O) → Record M P → Bool
covers_other_ttl ttl records r = type_of r == Rtype.rrsig && (has_type_at (set_type r) r.owner records && not (is_ttl_in_set ttl (set_type r) r.owner records))

-- no record has the RRSIG's original TTL, the fourth field (RFC 4034 section 3.1.4)
abbrev pub has_other_original_ttl : {N O M P : Type 0} → List (Record N O) → Record M P → Bool
has_other_original_ttl records r = covers_other_ttl (number_in (field_octets 3 r)) records r

-- no record has the TTL of the RRSIG itself
abbrev pub has_other_own_ttl : {N O M P : Type 0} → List (Record N O) → Record M P → Bool
has_other_own_ttl records r = covers_other_ttl r.ttl records r

-- The owners of NSEC, NSEC3 and RRSIG records, the TTLs of NSEC and NSEC3, and the iterations of a chain.
use Rattle.std.specs.Prelude.{ℕ, nat_eq, nat_le, nat_lt, min, ◌==◌, ◌&&◌, ◌||◌, not, Bool, false, Option, List, [], ◌∷◌, take, drop, slice_index}
use Rattle.std.specs.Cmp.Lexicographic.{pointwise}
use Rattle.std.specs.List.{find, list_all}
use Rattle.std.specs.Option.{option_map, option_map_or}
use Rattle.dns_wire.specs.Order.{same_name}
use Rattle.dns_wire.specs.Wire.{wire}
use Rattle.rdata_values.specs.Rtype as Rtype
use Rattle.zone_record.specs.declared.record.Record.{Record}
use Rattle.zone_rules.specs.Above.{parent_of}
use Rattle.zone_rules.specs.Rules.{is_below_zone_cut, is_zone_cut}
use Rattle.zone_rules.specs.Zones.{field_octets, type_of, set_type}
use Rattle.zone_dnssec.specs.Nsec3Chain.{iterations_of}
use Rattle.zone_dnssec.specs.Parameters.{names_chain}
use Rattle.zone_dnssec.specs.SignatureTimes.{number_in}
use Rattle.zone_dnssec.specs.SignedSets.{belongs_to_parent}

-- an RRSIG or NSEC below a delegation, or an RRSIG at one that covers neither DS nor NSEC (RFC 4035 sections 2.2 and 2.3)
abbrev pub is_occluded : {N O M P : Type 0} → List (List ℕ) → List (Record N O) → Record M P → Bool
is_occluded origin records r =
    (type_of r == Rtype.rrsig || type_of r == Rtype.nsec) && is_below_zone_cut origin records r.owner
    || type_of r == Rtype.rrsig && (not (belongs_to_parent (set_type r)) && is_zone_cut origin records r.owner)

-- ---- owners of NSEC3 (RFC 5155 section 3)

-- a digit of base32hex, in any case: 0 to 9, A to V
abbrev pub is_hash_digit : ℕ → Bool
is_hash_digit octet = nat_le 48 octet && nat_le octet 57 || (nat_le 65 octet && nat_le octet 86 || nat_le 97 octet && nat_le octet 118)

-- the first label has 32 of them: 20 octets
abbrev pub begins_with_hash : List ℕ → Bool
begins_with_hash octets = slice_index octets 0 == 32 && list_all is_hash_digit (take 32 (drop 1 octets))

-- a name is one label below another
abbrev pub is_child : List (List ℕ) → List (List ℕ) → Bool
is_child name top = option_map_or (λ above. same_name above top) (parent_of name) false

-- the owner of an NSEC3 is one label below the apex, a hash of 20 octets if hash algorithm 1 makes its hashes
abbrev pub is_link_owner : {N O : Type 0} → List (List ℕ) → Record N O → Bool
is_link_owner origin r = is_child r.owner origin && (not (pointwise nat_eq (field_octets 0 r) (1 ∷ [])) || begins_with_hash (wire r.owner))

abbrev pub has_other_link_owner : {N O : Type 0} → List (List ℕ) → Record N O → Bool
has_other_link_owner origin r = type_of r == Rtype.nsec3 && not (is_link_owner origin r)

-- ---- iterations (RFC 9276 section 3)

-- an NSEC3PARAM at the apex that names a chain, with more iterations than the first number and not more than the second
abbrev pub iterates_within : {N O : Type 0} → ℕ → ℕ → List (List ℕ) → Record N O → Bool
iterates_within above most origin r =
    names_chain r && (same_name r.owner origin && (nat_lt above (iterations_of r) && nat_le (iterations_of r) most))

-- ---- TTLs (RFC 9077 section 3)

-- the lesser of an SOA's TTL and its minimum, the seventh field
abbrev pub soa_ttl : {N O : Type 0} → Record N O → ℕ
soa_ttl r = min r.ttl (number_in (field_octets 6 r))

-- that of the zone's SOA
abbrev pub denial_ttl : {N O : Type 0} → List (List ℕ) → List (Record N O) → Option ℕ
denial_ttl origin records = option_map soa_ttl (find (λ r. same_name r.owner origin && type_of r == Rtype.soa) records)

-- an NSEC or NSEC3 has a different TTL
abbrev pub has_other_denial_ttl : {N O : Type 0} → Option ℕ → Record N O → Bool
has_other_denial_ttl wanted r = (type_of r == Rtype.nsec || type_of r == Rtype.nsec3) && option_map_or (λ ttl. not (r.ttl == ttl)) wanted false

-- The keys of a zone, and the keys that a signature fits (RFC 4034 sections 2.1 and 3.1, appendix B).
use Rattle.std.specs.Prelude.{ℕ, ◌+◌, ◌-◌, ◌*◌, ◌/◌, ◌%◌, ◌==◌, ◌&&◌, not, nat_lt, nat_le, if◌then◌else◌, Bool, Option, Some, None, List, [], ◌∷◌, length, drop, filter, slice_get, slice_index}
use Rattle.std.specs.Int.{from_be_bytes, w16}
use Rattle.std.specs.List.{flat_map, list_any}
use Rattle.std.specs.Option.{option_map, option_map_or}
use Rattle.dns_wire.specs.Order.{same_name}
use Rattle.rdata_values.specs.Rtype as Rtype
use Rattle.rdata_values.specs.declared.types.RecordType.{RecordType}
use Rattle.zone_record.specs.Records.{data_of}
use Rattle.zone_record.specs.declared.record.Record.{Record}
use Rattle.zone_rules.specs.Zones.{field_octets, type_of, set_type, is_one_set}
use Rattle.zone_dnssec.specs.Nsec3Chain.{short_number}
use Rattle.zone_dnssec.specs.SignedSets.{covers, has_signature, must_be_signed, starts}
use Rattle.zone_dnssec.specs.declared.keys.Key.{Key}

-- ---- key tags (RFC 4034 appendix B)

-- octets with an even index count 256 times
abbrev pub weighed : ℕ → ℕ → ℕ
weighed index octet = if index % 2 == 0 then octet * 256 else octet

-- the sum of octets, the first of which has this index
abbrev pub weighed_sum : ℕ → List ℕ → ℕ
weighed_sum index [] = 0
weighed_sum index (octet ∷ others) = weighed index octet + weighed_sum (index + 1) others

-- the upper half of the sum is added to it, and the lower 16 bits are kept
abbrev pub sum_tag : List ℕ → ℕ
sum_tag octets = (weighed_sum 0 octets + weighed_sum 0 octets / 65536) % 65536

-- ---- key tags of algorithm 1 (RFC 4034 appendix B.1)

-- the modulus after an exponent whose length has two octets
abbrev pub long_modulus : List ℕ → List ℕ
long_modulus [] = []
long_modulus (high ∷ []) = []
long_modulus (high ∷ low ∷ others) = drop (from_be_bytes w16 (high ∷ low ∷ [])) others

-- the modulus of an RSA key, after the length of the exponent and the exponent (RFC 3110 section 2)
abbrev pub modulus : List ℕ → List ℕ
modulus [] = []
modulus (count ∷ others) = if count == 0 then long_modulus others else drop count others

-- the third last and the second last of its octets
abbrev pub modulus_tag : List ℕ → Option ℕ
modulus_tag octets =
    if nat_lt (length octets) 3 then None else Some (from_be_bytes w16 (slice_index octets (length octets - 3) ∷ slice_index octets (length octets - 2) ∷ []))

-- ---- keys

-- the key tag of a DNSKEY with an algorithm, these data, and this key at their end
abbrev pub key_tag : ℕ → List ℕ → List ℕ → Option ℕ
key_tag algorithm octets key = if algorithm == 1 then modulus_tag (modulus key) else Some (sum_tag octets)

-- of an algorithm and this key, revoked or not, with a key tag
abbrev pub key_with : ℕ → List ℕ → Bool → ℕ → Key
key_with algorithm key is_revoked tag = record { tag = tag; algorithm = algorithm; is_revoked = is_revoked; modulus_len = length (modulus key) }

-- data of a DNSKEY: flags of two octets, protocol, algorithm and key. The lowest bit of the first octet is the Zone flag, and the protocol is 3 (RFC
-- 4034 sections 2.1.1 and 2.1.2). The highest of the second is the REVOKE flag (RFC 5011 section 7)
abbrev pub key_in : List ℕ → Option Key
key_in [] = None
key_in (a ∷ []) = None
key_in (a ∷ b ∷ []) = None
key_in (a ∷ b ∷ c ∷ []) = None
key_in (high ∷ low ∷ protocol ∷ algorithm ∷ key) =
    if high % 2 == 1 && protocol == 3 then option_map (key_with algorithm key (nat_le 128 low)) (key_tag algorithm (high ∷ low ∷ protocol ∷ algorithm ∷ key) key) else None

-- the key of a DNSKEY, if it signs zones
abbrev pub keys_of : {N O : Type 0} → Record N O → List Key
keys_of r = if type_of r == Rtype.dnskey then option_map_or (λ key. key ∷ []) (key_in (data_of r).octets) [] else []

-- the key in the record at an index
abbrev pub keys_at : {N O : Type 0} → List (Record N O) → ℕ → List Key
keys_at records place = option_map_or keys_of (slice_get records place) []

-- the keys at the apex
abbrev pub zone_keys : {N O : Type 0} → List (List ℕ) → List (Record N O) → List Key
zone_keys origin records = flat_map keys_of (filter (λ r. same_name r.owner origin) records)

-- ---- the keys that an RRSIG fits

-- the algorithm is the RRSIG's second field, the key tag its seventh
abbrev pub is_named : {N O : Type 0} → Record N O → Key → Bool
is_named r key = key.algorithm == slice_index (field_octets 1 r) 0 && key.tag == short_number (field_octets 6 r)

abbrev pub fits_key : {N O : Type 0} → List Key → Record N O → Bool
fits_key keys r = list_any (is_named r) keys

-- some RRSIG at a name covers the type, and fits a key
abbrev pub has_fitting_signature : {N O : Type 0} → List Key → RecordType → List (List ℕ) → List (Record N O) → Bool
has_fitting_signature keys rtype name records = list_any (λ r. same_name r.owner name && (covers rtype r && fits_key keys r)) records

-- the record is the first of an RRset that must be signed and is, but by no known key
abbrev pub lacks_known_key : {N O M P : Type 0} → List Key → List (List ℕ) → List (Record N O) → Option (Record M P) → Record M P → Bool
lacks_known_key keys origin records before r =
    starts is_one_set before r
    && (must_be_signed origin records r && (not (has_fitting_signature keys (type_of r) r.owner records) && has_signature (type_of r) r.owner records))

-- an RRSIG fits no key, and another of the same RRset does
abbrev pub misses_key : {N O M P : Type 0} → List Key → List (Record N O) → Record M P → Bool
misses_key keys records r = type_of r == Rtype.rrsig && (not (fits_key keys r) && has_fitting_signature keys (set_type r) r.owner records)

-- an RRSIG that does not cover DNSKEY fits a key, and each key that it fits is revoked (RFC 5011 section 2.1)
abbrev pub is_by_revoked_key : {N O : Type 0} → List Key → Record N O → Bool
is_by_revoked_key keys r =
    type_of r == Rtype.rrsig && (not (set_type r == Rtype.dnskey) && (fits_key keys r && not (list_any (λ key. is_named r key && not key.is_revoked) keys)))

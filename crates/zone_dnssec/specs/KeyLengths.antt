-- The lengths of signatures and keys (RFC 3110 section 2, RFC 5702 section 2, RFC 6605 section 4, RFC 8080 sections 3 and 4).
use Rattle.std.specs.Prelude.{ℕ, ◌==◌, ◌&&◌, ◌||◌, not, nat_le, if◌then◌else◌, Bool, Option, Some, None, List, [], ◌∷◌, length, drop, find, slice_index}
use Rattle.std.specs.Int.{from_be_bytes, w16}
use Rattle.std.specs.List.{list_any}
use Rattle.std.specs.Option.{option_map, option_map_or}
use Rattle.rdata_values.specs.Rtype as Rtype
use Rattle.zone_record.specs.Records.{data_of}
use Rattle.zone_record.specs.declared.record.Record.{Record}
use Rattle.zone_rules.specs.Zones.{field_octets, type_of}
use Rattle.zone_dnssec.specs.ZoneKeys.{fits_key, is_named, modulus}
use Rattle.zone_dnssec.specs.declared.keys.Key.{Key}

-- RSA with SHA-1, with SHA-1 and NSEC3, with SHA-256, and with SHA-512
abbrev pub is_rsa : ℕ → Bool
is_rsa algorithm = algorithm == 5 || (algorithm == 7 || (algorithm == 8 || algorithm == 10))

-- octets of each signature by ECDSA P-256 and Ed25519, ECDSA P-384, and Ed448 (RFC 6605 section 4, RFC 8080 section 4)
abbrev pub fixed_signature_length : ℕ → Option ℕ
fixed_signature_length algorithm = if algorithm == 13 || algorithm == 15 then Some 64 else if algorithm == 14 then Some 96 else if algorithm == 16 then Some 114 else None

-- octets of each of their keys (RFC 6605 section 4, RFC 8080 section 3)
abbrev pub fixed_key_length : ℕ → Option ℕ
fixed_key_length algorithm =
    if algorithm == 13 then Some 64 else if algorithm == 14 then Some 96 else if algorithm == 15 then Some 32 else if algorithm == 16 then Some 57 else None

-- the least modulus of an RSA key has 64 octets, and with SHA-512 128 (RFC 5702 sections 2.1 and 2.2)
abbrev pub least_modulus : ℕ → ℕ
least_modulus algorithm = if algorithm == 10 then 128 else 64

-- the length of an exponent, in two octets
abbrev pub long_exponent : List ℕ → ℕ
long_exponent [] = 0
long_exponent (high ∷ []) = 0
long_exponent (high ∷ low ∷ others) = from_be_bytes w16 (high ∷ low ∷ [])

-- the length of the exponent of an RSA key, in one octet, or after an octet 0 in two (RFC 3110 section 2)
abbrev pub exponent_length : List ℕ → ℕ
exponent_length [] = 0
exponent_length (count ∷ others) = if count == 0 then long_exponent others else count

-- an RSA key has an exponent, and a modulus of at most 512 octets (RFC 3110 section 2)
abbrev pub is_rsa_key : ℕ → List ℕ → Bool
is_rsa_key algorithm key = not (exponent_length key == 0) && (nat_le (least_modulus algorithm) (length (modulus key)) && nat_le (length (modulus key)) 512)

-- a key has the length of its algorithm
abbrev pub has_key_length : ℕ → List ℕ → Bool
has_key_length algorithm key = option_map_or (λ n. length key == n) (fixed_key_length algorithm) (not (is_rsa algorithm) || is_rsa_key algorithm key)

-- the public key of a DNSKEY, after its flags, its protocol and its algorithm (RFC 4034 section 2.1)
abbrev pub public_key : {N O : Type 0} → Record N O → List ℕ
public_key r = drop 4 (data_of r).octets

-- the signature of an RRSIG, after 18 octets and the signer, its eighth field (RFC 4034 section 3.1)
abbrev pub signature : {N O : Type 0} → Record N O → List ℕ
signature r = drop (length (field_octets 7 r)) (drop 18 (data_of r).octets)

-- a DNSKEY, whose third field is the algorithm, has a key of another length
abbrev pub has_other_key_length : {N O : Type 0} → Record N O → Bool
has_other_key_length r = type_of r == Rtype.dnskey && not (has_key_length (slice_index (field_octets 2 r) 0) (public_key r))

-- an RRSIG fits a key whose modulus has this length
abbrev pub fits_modulus : {N O : Type 0} → List Key → ℕ → Record N O → Bool
fits_modulus keys n r = list_any (λ key. is_named r key && key.modulus_len == n) keys

-- a signature has the length of its algorithm, the second field; with RSA that of the modulus of a key that it fits, if it fits one
abbrev pub has_signature_length : {N O : Type 0} → List Key → Record N O → Bool
has_signature_length keys r =
    option_map_or (λ n. length (signature r) == n) (fixed_signature_length (slice_index (field_octets 1 r) 0))
    (not (is_rsa (slice_index (field_octets 1 r) 0)) || (not (fits_key keys r) || fits_modulus keys (length (signature r)) r))

-- the length of the modulus of the first key that an RRSIG fits
abbrev pub fitting_modulus : {N O : Type 0} → List Key → Record N O → Option ℕ
fitting_modulus keys r = option_map (λ key. key.modulus_len) (find (is_named r) keys)

-- an RRSIG whose signature has another length
abbrev pub has_other_signature_length : {N O : Type 0} → List Key → Record N O → Bool
has_other_signature_length keys r = type_of r == Rtype.rrsig && not (has_signature_length keys r)

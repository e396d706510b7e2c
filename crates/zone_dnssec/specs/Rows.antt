-- Worked examples of the rules, each computed.
use Rattle.std.specs.Prelude.{◌≡◌, ℕ, Some, None, nat_le, true, false, List, [], ◌∷◌, codes, replicate, refl}
use Rattle.rdata_values.specs.Rtype as Rtype
use Rattle.rdata_values.specs.declared.types.RecordType.{RecordType}
use Rattle.zone_record.specs.declared.record.Record.{Record}
use Rattle.rdata.specs.Types.{type_shapes}
use Rattle.dns_wire.specs.Wire.{wire}
use Rattle.zone_dnssec.specs.ChainFaults.{either_faults, faults_with}
use Rattle.zone_dnssec.specs.ChainLinks.{link_below, link_places, places_where}
use Rattle.zone_dnssec.specs.DenialRecords.{begins_with_hash, is_child, is_occluded}
use Rattle.zone_dnssec.specs.KeyLengths.{has_key_length}
use Rattle.zone_dnssec.specs.KeyRequests.{asks_for_key, is_request_of, requests_differ}
use Rattle.zone_dnssec.specs.NsecChain.{comes_after, next_name}
use Rattle.zone_dnssec.specs.Nsec3Chain.{link_after, link_before}
use Rattle.zone_dnssec.specs.NsecTypes.{is_unlisted, may_be_listed}
use Rattle.zone_dnssec.specs.OptOutFlags.{is_flag_lone}
use Rattle.zone_dnssec.specs.Parameters.{has_named_chain}
use Rattle.zone_dnssec.specs.SignatureFields.{label_count}
use Rattle.zone_dnssec.specs.SignatureTimes.{has_passed, seconds_between}
use Rattle.zone_dnssec.specs.SignedApex.{has_apex_signature, is_incomplete, lacks_apex_signature}
use Rattle.zone_dnssec.specs.SignedSets.{has_signature, must_be_signed, signs_nothing}
use Rattle.zone_dnssec.specs.SigningAlgorithms.{signer_with, signs_keys_alone}
use Rattle.zone_dnssec.specs.UnmatchedLinks.{shows_name}
use Rattle.zone_dnssec.specs.ZoneKeys.{modulus, modulus_tag, sum_tag}
use Rattle.zone_dnssec.specs.ZoneViews.{zone_with}
use Rattle.zone_dnssec.specs.declared.keys.Key.{Key}

-- ---- times: after 4294967295 comes 0 (RFC 1982 section 3.1)

later_row : has_passed 1767225600 1767225601 ≡ true
later_row = refl

same_row : has_passed 1767225600 1767225600 ≡ false
same_row = refl

around_row : has_passed 4294967200 100 ≡ true
around_row = refl

not_around_row : has_passed 100 4294967200 ≡ false
not_around_row = refl

distance_row : seconds_between 4294967200 100 ≡ 196
distance_row = refl

-- ---- sets

-- `example.`, and names below it
abbrev origin : List (List ℕ)
origin = codes "example" ∷ [] ∷ []

abbrev sub : List (List ℕ)
sub = codes "sub" ∷ origin

abbrev at : List (List ℕ) → RecordType → List ℕ → Record ℕ ℕ
at owner rtype octets = record { owner = owner; ttl = 60; class = 1; «data» = record { rtype = rtype; octets = octets } }

-- a delegation, with glue at its own name and below it
abbrev delegated : List (Record ℕ ℕ)
delegated = at sub Rtype.ns [] ∷ at sub Rtype.a [] ∷ at sub Rtype.ds [] ∷ at (codes "ns" ∷ sub) Rtype.a [] ∷ []

apex_row : must_be_signed origin delegated (at origin Rtype.ns []) ≡ true
apex_row = refl

delegation_row : must_be_signed origin delegated (at sub Rtype.ns []) ≡ false
delegation_row = refl

glue_row : must_be_signed origin delegated (at sub Rtype.a []) ≡ false
glue_row = refl

ds_row : must_be_signed origin delegated (at sub Rtype.ds []) ≡ true
ds_row = refl

below_row : must_be_signed origin delegated (at (codes "ns" ∷ sub) Rtype.a []) ≡ false
below_row = refl

-- an RRSIG that covers DS
abbrev signature : Record ℕ ℕ
signature = at sub Rtype.rrsig (0 ∷ 43 ∷ [])

signed_row : has_signature Rtype.ds sub (signature ∷ []) ≡ true
signed_row = refl

nothing_row : signs_nothing (signature ∷ []) signature ≡ true
nothing_row = refl

-- ---- the chain

after_row : comes_after sub origin ≡ true
after_row = refl

not_after_row : comes_after (codes "EXAMPLE" ∷ [] ∷ []) origin ≡ false
not_after_row = refl

-- names below a delegation are skipped, and the last one is followed by the apex
next_row : next_name origin delegated origin ≡ sub
next_row = refl

last_row : next_name origin delegated sub ≡ origin
last_row = refl

-- ---- parameters of chains: hash algorithm, flags, iterations, and a salt of no octets

abbrev parameters : ℕ → ℕ → Record ℕ ℕ
parameters algorithm flags = at origin Rtype.nsec3param (algorithm ∷ flags ∷ 0 ∷ 0 ∷ 0 ∷ [])

chain_row : has_named_chain origin (parameters 1 0 ∷ []) ≡ true
unfolding type_shapes
chain_row = refl

flags_row : has_named_chain origin (parameters 1 1 ∷ []) ≡ false
unfolding type_shapes
flags_row = refl

algorithm_row : has_named_chain origin (parameters 2 0 ∷ []) ≡ false
unfolding type_shapes
algorithm_row = refl

second_row : has_named_chain origin (parameters 1 1 ∷ parameters 1 0 ∷ []) ≡ true
unfolding type_shapes
second_row = refl

-- ---- labels that an RRSIG counts (RFC 4034 section 3.1.3)

labels_row : label_count sub ≡ 2
labels_row = refl

wildcard_labels_row : label_count ((42 ∷ []) ∷ sub) ≡ 2
wildcard_labels_row = refl

root_labels_row : label_count ([] ∷ []) ≡ 0
root_labels_row = refl

-- ---- what may be signed at and below a delegation

nsec_at_row : is_occluded origin delegated (at sub Rtype.nsec []) ≡ false
nsec_at_row = refl

nsec_below_row : is_occluded origin delegated (at (codes "ns" ∷ sub) Rtype.nsec []) ≡ true
nsec_below_row = refl

signed_ds_row : is_occluded origin delegated signature ≡ false
signed_ds_row = refl

signed_ns_row : is_occluded origin delegated (at sub Rtype.rrsig (0 ∷ 2 ∷ [])) ≡ true
signed_ns_row = refl

signed_below_row : is_occluded origin delegated (at (codes "ns" ∷ sub) Rtype.rrsig (0 ∷ 1 ∷ [])) ≡ true
signed_below_row = refl

-- ---- key tags: of `256 3 8 AQID`, and of RSA/MD5 with the exponent 3 (RFC 4034 appendix B)

tag_row : sum_tag (1 ∷ 0 ∷ 3 ∷ 8 ∷ 1 ∷ 2 ∷ 3 ∷ []) ≡ 2058
tag_row = refl

carry_row : sum_tag (255 ∷ 255 ∷ 255 ∷ 255 ∷ []) ≡ 65535
carry_row = refl

modulus_row : modulus_tag (modulus (1 ∷ 3 ∷ 4 ∷ 5 ∷ 6 ∷ 7 ∷ [])) ≡ Some 1286
modulus_row = refl

long_exponent_row : modulus_tag (modulus (0 ∷ 0 ∷ 1 ∷ 3 ∷ 4 ∷ 5 ∷ 6 ∷ 7 ∷ [])) ≡ Some 1286
long_exponent_row = refl

short_modulus_row : modulus_tag (modulus (1 ∷ 3 ∷ 4 ∷ 5 ∷ [])) ≡ None
short_modulus_row = refl

-- ---- owners of NSEC3

hash_row : begins_with_hash (wire (codes "2vptu5timamqttgl4luu9kg21e0aor3s" ∷ origin)) ≡ true
hash_row = refl

short_hash_row : begins_with_hash (wire (codes "2vptu5ti" ∷ origin)) ≡ false
short_hash_row = refl

no_digit_row : begins_with_hash (wire (codes "wvptu5timamqttgl4luu9kg21e0aor3s" ∷ origin)) ≡ false
no_digit_row = refl

child_row : is_child sub origin ≡ true
child_row = refl

grandchild_row : is_child (codes "ns" ∷ sub) origin ≡ false
grandchild_row = refl

-- ---- requests for DS of keys (RFC 7344): a CDS has key tag and algorithm before its digest

abbrev own_key : Key
own_key = record { tag = 258; algorithm = 8; is_revoked = false; modulus_len = 0 }

own_cds_row : is_request_of (own_key ∷ []) Rtype.cds (at origin Rtype.cds (1 ∷ 2 ∷ 8 ∷ 2 ∷ 1 ∷ [])) ≡ true
own_cds_row = refl

other_cds_row : is_request_of (own_key ∷ []) Rtype.cds (at origin Rtype.cds (1 ∷ 3 ∷ 8 ∷ 2 ∷ 1 ∷ [])) ≡ false
other_cds_row = refl

delete_row : asks_for_key (at origin Rtype.cds (0 ∷ 0 ∷ 0 ∷ 0 ∷ 0 ∷ [])) ≡ false
delete_row = refl

key_delete_row : asks_for_key (at origin Rtype.cdnskey (0 ∷ 0 ∷ 3 ∷ 0 ∷ 0 ∷ [])) ≡ false
key_delete_row = refl

-- a CDNSKEY of the key tag 1033, with a CDS of it, and with another
abbrev its_key : Record ℕ ℕ
its_key = at origin Rtype.cdnskey (1 ∷ 1 ∷ 3 ∷ 8 ∷ 0 ∷ [])

same_keys_row : requests_differ origin (at origin Rtype.cds (4 ∷ 9 ∷ 8 ∷ 2 ∷ 1 ∷ []) ∷ its_key ∷ []) None (at origin Rtype.cds (4 ∷ 9 ∷ 8 ∷ 2 ∷ 1 ∷ [])) ≡ false
same_keys_row = refl

other_keys_row : requests_differ origin (at origin Rtype.cds (4 ∷ 8 ∷ 8 ∷ 2 ∷ 1 ∷ []) ∷ its_key ∷ []) None (at origin Rtype.cds (4 ∷ 8 ∷ 8 ∷ 2 ∷ 1 ∷ [])) ≡ true
other_keys_row = refl

-- ---- indexes of items, and of the NSEC3 records of a chain

places_row : places_where (λ n. nat_le 2 n) (1 ∷ 2 ∷ 0 ∷ 3 ∷ []) ≡ 1 ∷ 3 ∷ []
places_row = refl

index_below_row : link_below 4 (Some 3) ≡ Some 3
index_below_row = refl

index_not_below_row : link_below 3 (Some 3) ≡ None
index_not_below_row = refl

-- an NSEC3 without salt and with a next hash of no octets, at a name of one letter
abbrev hashed : ℕ → Record ℕ ℕ
hashed letter = at ((letter ∷ []) ∷ origin) Rtype.nsec3 (1 ∷ 0 ∷ 0 ∷ 0 ∷ 0 ∷ 0 ∷ [])

abbrev chained : List (Record ℕ ℕ)
chained = parameters 1 0 ∷ hashed 98 ∷ at sub Rtype.a [] ∷ hashed 120 ∷ []

links_row : link_places (parameters 1 0) chained ≡ 1 ∷ 3 ∷ []
unfolding type_shapes
links_row = refl

next_link_row : link_after chained (parameters 1 0) sub ≡ Some (hashed 120)
unfolding type_shapes
next_link_row = refl

first_link_row : link_after chained (parameters 1 0) ((121 ∷ []) ∷ origin) ≡ Some (hashed 98)
unfolding type_shapes
first_link_row = refl

covering_link_row : link_before chained (parameters 1 0) sub ≡ Some (hashed 98)
unfolding type_shapes
covering_link_row = refl

last_link_row : link_before chained (parameters 1 0) ((97 ∷ []) ∷ origin) ≡ Some (hashed 120)
unfolding type_shapes
last_link_row = refl

-- ---- types that a bitmap must list

delegation_type_row : may_be_listed true Rtype.ds ≡ true
delegation_type_row = refl

glue_type_row : may_be_listed true Rtype.a ≡ false
glue_type_row = refl

type_row : may_be_listed false Rtype.a ≡ true
type_row = refl

glue_need_not_be_listed_row : is_unlisted true [] (at sub Rtype.a []) ≡ false
glue_need_not_be_listed_row = refl

-- ---- faults of one or both of two chains

either_row : either_faults (faults_with true false false false true) (faults_with false false true false false) ≡ faults_with true false true false true
either_row = refl

-- ---- lengths of signatures and keys

-- an RSA key with the exponent 3 and a modulus of this length
abbrev rsa_key : ℕ → List ℕ
rsa_key n = 1 ∷ 3 ∷ replicate n 0

short_rsa_row : has_key_length 8 (rsa_key 63) ≡ false
short_rsa_row = refl

least_rsa_row : has_key_length 8 (rsa_key 64) ≡ true
least_rsa_row = refl

short_sha512_row : has_key_length 10 (rsa_key 64) ≡ false
short_sha512_row = refl

no_exponent_row : has_key_length 8 (0 ∷ 0 ∷ 0 ∷ replicate 64 0) ≡ false
no_exponent_row = refl

three_octets_row : has_key_length 8 (0 ∷ 0 ∷ 1 ∷ 3 ∷ replicate 64 0) ≡ true
three_octets_row = refl

p256_row : has_key_length 13 (replicate 64 0) ≡ true
p256_row = refl

short_p256_row : has_key_length 13 (replicate 63 0) ≡ false
short_p256_row = refl

other_algorithm_row : has_key_length 12 [] ≡ true
other_algorithm_row = refl

-- ---- Opt-Out flags of a chain

abbrev flagged : ℕ → ℕ → Record ℕ ℕ
flagged letter flags = at ((letter ∷ []) ∷ origin) Rtype.nsec3 (1 ∷ flags ∷ 0 ∷ 0 ∷ 0 ∷ 0 ∷ [])

one_flag_row : is_flag_lone (parameters 1 0) true (flagged 98 1 ∷ flagged 99 0 ∷ flagged 100 0 ∷ []) ≡ true
unfolding type_shapes
one_flag_row = refl

two_links_row : is_flag_lone (parameters 1 0) true (flagged 98 1 ∷ flagged 99 0 ∷ []) ≡ false
unfolding type_shapes
two_links_row = refl

two_flags_row : is_flag_lone (parameters 1 0) true (flagged 98 1 ∷ flagged 99 1 ∷ flagged 100 0 ∷ flagged 101 0 ∷ []) ≡ false
unfolding type_shapes
two_flags_row = refl

-- ---- records that show a name

shown_row : shows_name (zone_with origin delegated) (at sub Rtype.ns []) ≡ true
shown_row = refl

occluded_name_row : shows_name (zone_with origin delegated) (at (codes "ns" ∷ sub) Rtype.a []) ≡ false
occluded_name_row = refl

renamed_name_row : shows_name (zone_with origin (at sub Rtype.dname [] ∷ [])) (at (codes "ns" ∷ sub) Rtype.a []) ≡ false
renamed_name_row = refl

-- ---- algorithms of keys

lone_algorithm_row : signs_keys_alone (signer_with 13 true true ∷ signer_with 8 true false ∷ []) 8 ≡ true
lone_algorithm_row = refl

other_algorithm_signs_row : signs_keys_alone (signer_with 13 true true ∷ signer_with 8 true false ∷ []) 13 ≡ false
other_algorithm_signs_row = refl

standby_row : signs_keys_alone (signer_with 8 false false ∷ []) 8 ≡ false
standby_row = refl

-- ---- signed zones

-- an RRSIG that covers a type below 256
abbrev signature_of : List (List ℕ) → ℕ → Record ℕ ℕ
signature_of owner covered = at owner Rtype.rrsig (0 ∷ covered ∷ 13 ∷ 1 ∷ 0 ∷ 0 ∷ 0 ∷ 60 ∷ 0 ∷ 0 ∷ 0 ∷ 0 ∷ 0 ∷ 0 ∷ 0 ∷ 0 ∷ 0 ∷ 1 ∷ 0 ∷ 0 ∷ [])

signed_apex_row : has_apex_signature origin (signature_of origin 2 ∷ []) ≡ true
unfolding type_shapes
signed_apex_row = refl

keys_alone_row : has_apex_signature origin (signature_of origin 48 ∷ []) ≡ false
unfolding type_shapes
keys_alone_row = refl

lost_row : lacks_apex_signature origin (at origin Rtype.dnskey [] ∷ signature_of origin 48 ∷ at sub Rtype.a [] ∷ signature_of sub 1 ∷ []) ≡ true
unfolding type_shapes
lost_row = refl

offline_row : lacks_apex_signature origin (at origin Rtype.dnskey [] ∷ signature_of origin 48 ∷ at sub Rtype.a [] ∷ []) ≡ false
unfolding type_shapes
offline_row = refl

-- ---- what BIND notes of a key, and of a chain of NSEC3

incomplete_row : is_incomplete (13 ∷ 241 ∷ 61 ∷ 0 ∷ 0 ∷ []) ≡ true
incomplete_row = refl

complete_row : is_incomplete (13 ∷ 241 ∷ 61 ∷ 0 ∷ 1 ∷ []) ≡ false
complete_row = refl

chain_note_row : is_incomplete (0 ∷ 1 ∷ 128 ∷ 0 ∷ 0 ∷ 0 ∷ []) ≡ true
chain_note_row = refl

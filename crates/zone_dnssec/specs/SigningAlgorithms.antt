-- The algorithms that sign the RRsets of a zone (RFC 4035 section 2.2).
use Rattle.std.specs.Prelude.{ℕ, nat_eq, ◌==◌, ◌&&◌, ◌||◌, not, if◌then◌else◌, Bool, true, false, Option, List, [], ◌∷◌, slice_index}
use Rattle.std.specs.Cmp.Lexicographic.{pointwise}
use Rattle.std.specs.List.{find, flat_map, list_any}
use Rattle.std.specs.Option.{option_map, option_map_or}
use Rattle.dns_wire.specs.Order.{same_name}
use Rattle.rdata_values.specs.Rtype as Rtype
use Rattle.rdata_values.specs.declared.types.RecordType.{RecordType}
use Rattle.zone_record.specs.Records.{data_of}
use Rattle.zone_record.specs.declared.record.Record.{Record}
use Rattle.zone_rules.specs.Rules.{is_zone_cut}
use Rattle.zone_rules.specs.Zones.{field_octets, has_type_at, is_one_set, set_type, type_of}
use Rattle.zone_dnssec.specs.SignedSets.{belongs_to_parent, covers, is_authoritative, must_be_signed, starts}
use Rattle.zone_dnssec.specs.ZoneKeys.{fits_key, is_named, zone_keys}
use Rattle.zone_dnssec.specs.ZoneViews.{ZoneView}
use Rattle.zone_dnssec.specs.declared.algorithms.Signer.{Signer}
use Rattle.zone_dnssec.specs.declared.keys.Key.{Key}

-- ---- RRSIGs

-- an RRSIG fits a key that is not revoked, or covers DNSKEY and fits a key (RFC 5011 section 2.1)
abbrev pub fits_for_set : {N O : Type 0} → List Key → Record N O → Bool
fits_for_set keys r = list_any (λ key. is_named r key && not key.is_revoked) keys || set_type r == Rtype.dnskey && fits_key keys r

-- an RRSIG covers a type, and fits a key
abbrev pub validly_covers : {N O : Type 0} → List Key → RecordType → Record N O → Bool
validly_covers keys rtype r = covers rtype r && fits_for_set keys r

-- the same by an algorithm, the second field
abbrev pub covers_by : {N O : Type 0} → List Key → RecordType → ℕ → Record N O → Bool
covers_by keys rtype algorithm r = validly_covers keys rtype r && slice_index (field_octets 1 r) 0 == algorithm

-- an RRSIG by an algorithm covers DNSKEY, or another type
abbrev pub is_by_algorithm : {N O : Type 0} → ℕ → Bool → Record N O → Bool
is_by_algorithm algorithm is_of_keys r =
    type_of r == Rtype.rrsig && (slice_index (field_octets 1 r) 0 == algorithm && (if is_of_keys then set_type r == Rtype.dnskey else not (set_type r == Rtype.dnskey)))

-- the RRset that an RRSIG covers exists, and must be signed
abbrev pub covers_signed_set : {N O M P : Type 0} → List (List ℕ) → List (Record N O) → Record M P → Bool
covers_signed_set origin records r =
    has_type_at (set_type r) r.owner records
    && (not (set_type r == Rtype.rrsig) && (is_authoritative origin records r.owner && (belongs_to_parent (set_type r) || not (is_zone_cut origin records r.owner))))

-- an RRSIG by an algorithm signs such an RRset, of DNSKEYs or of another type, and fits a key
abbrev pub signs_set : {N O M P : Type 0} → List Key → ZoneView N O → ℕ → Bool → Record M P → Bool
signs_set keys zone algorithm is_of_keys r = is_by_algorithm algorithm is_of_keys r && (fits_for_set keys r && covers_signed_set zone.origin zone.records r)

-- ---- algorithms of keys that are not revoked

abbrev pub signer_with : ℕ → Bool → Bool → Signer
signer_with algorithm keys others = record { algorithm = algorithm; signs_keys = keys; signs_others = others }

-- whether the algorithm of a key signs the RRset of DNSKEYs, and whether it signs others
abbrev pub signers_by : {N O : Type 0} → ZoneView N O → List Key → Key → List Signer
signers_by zone keys key =
    if key.is_revoked then [] else signer_with key.algorithm (list_any (signs_set keys zone key.algorithm true) zone.records) (list_any (signs_set keys zone key.algorithm false) zone.records) ∷ []

abbrev pub zone_signers : {N O : Type 0} → ZoneView N O → List Key → List Signer
zone_signers zone keys = flat_map (signers_by zone keys) keys

-- ---- the rule

-- a DNSKEY with an algorithm, its third field
abbrev pub is_key_with : {N O : Type 0} → ℕ → Record N O → Bool
is_key_with algorithm r = type_of r == Rtype.dnskey && slice_index (field_octets 2 r) 0 == algorithm

-- the RDATA is that of the first DNSKEY of its algorithm at the apex
abbrev pub is_first_with : {N O M P : Type 0} → List (List ℕ) → List (Record N O) → ℕ → Record M P → Bool
is_first_with origin records algorithm r =
    option_map_or (λ s. pointwise nat_eq (data_of s).octets (data_of r).octets) (find (λ s. same_name s.owner origin && is_key_with algorithm s) records) false

-- an algorithm signs the DNSKEYs alone
abbrev pub signs_keys_alone : List Signer → ℕ → Bool
signs_keys_alone signers algorithm = list_any (λ s. s.algorithm == algorithm && (s.signs_keys && not s.signs_others)) signers

-- some algorithm signs other RRsets
abbrev pub signs_any_others : List Signer → Bool
signs_any_others signers = list_any (λ s. s.signs_others) signers

-- the first DNSKEY of an algorithm that signs no RRset but DNSKEY, where other RRsets are signed
abbrev pub is_of_lone_algorithm : {N O M P : Type 0} → List Signer → List (List ℕ) → List (Record N O) → Record M P → Bool
is_of_lone_algorithm signers origin records r =
    type_of r == Rtype.dnskey
    && (same_name r.owner origin && (signs_keys_alone signers (slice_index (field_octets 2 r) 0) && (signs_any_others signers && is_first_with origin records (slice_index (field_octets 2 r) 0) r)))

-- some RRSIG of a name validly covers a type
abbrev pub has_valid_signature : {N O : Type 0} → List Key → RecordType → List (List ℕ) → List (Record N O) → Bool
has_valid_signature keys rtype name records = list_any (λ r. same_name r.owner name && validly_covers keys rtype r) records

-- the same by an algorithm
abbrev pub has_signature_by : {N O : Type 0} → List Key → RecordType → List (List ℕ) → List (Record N O) → ℕ → Bool
has_signature_by keys rtype name records algorithm = list_any (λ r. same_name r.owner name && covers_by keys rtype algorithm r) records

-- an algorithm signs others than DNSKEYs, and not an RRset
abbrev pub is_missed : {N O : Type 0} → List Key → RecordType → List (List ℕ) → List (Record N O) → Signer → Bool
is_missed keys rtype name records s = s.signs_others && not (has_signature_by keys rtype name records s.algorithm)

-- the first such algorithm, of the RRset of a record
abbrev pub missed_algorithm : {N O M P : Type 0} → List Key → List Signer → List (Record N O) → Record M P → Option ℕ
missed_algorithm keys signers records r = option_map (λ s. s.algorithm) (find (is_missed keys (type_of r) r.owner records) signers)

-- the record is the first of a signed RRset that lacks a signature by such an algorithm
abbrev pub lacks_algorithm : {N O M P : Type 0} → List Key → List Signer → List (List ℕ) → List (Record N O) → Option (Record M P) → Record M P → Bool
lacks_algorithm keys signers origin records before r =
    starts is_one_set before r
    && (must_be_signed origin records r && (list_any (is_missed keys (type_of r) r.owner records) signers && has_valid_signature keys (type_of r) r.owner records))

abbrev pub breaks_algorithms : {N O M P : Type 0} → ZoneView N O → Option (Record M P) → Record M P → Bool
breaks_algorithms zone before r =
    is_of_lone_algorithm (zone_signers zone (zone_keys zone.origin zone.records)) zone.origin zone.records r
    || lacks_algorithm (zone_keys zone.origin zone.records) (zone_signers zone (zone_keys zone.origin zone.records)) zone.origin zone.records before r

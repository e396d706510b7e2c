-- Searches among the records of a name: words for private functions.
use Rattle.std.specs.Prelude.{◌≡◌, ℕ, ◌<◌, ◌≤◌, ◌==◌, ◌&&◌, if◌then◌else◌, nat_lt, not, Bool, true, false, Option, Some, None, List, slice_get}
use Rattle.std.specs.List.{AllWithin, find, list_any}
use Rattle.std.specs.Option.{option_map_or}
use Rattle.dns_wire.specs.Order.{same_name}
use Rattle.rdata_values.specs.Rtype as Rtype
use Rattle.zone_record.specs.declared.record.Record.{Record}
use Rattle.zone_rules.specs.Zones.{type_of}
use Rattle.zone_dnssec.specs.CurrentSignatures.{covers_at}
use Rattle.zone_dnssec.specs.KeyRequests.{is_request_named, is_request_of, is_request_type}
use Rattle.zone_dnssec.specs.NsecChain.{is_hashed_denial}
use Rattle.zone_dnssec.specs.NsecTypes.{is_unlisted}
use Rattle.zone_dnssec.specs.Parameters.{names_chain}
use Rattle.zone_dnssec.specs.SignedApex.{is_apex_signature, is_signing_note}
use Rattle.zone_dnssec.specs.SignedSets.{covers}
use Rattle.zone_dnssec.specs.SigningAlgorithms.{covers_by, is_key_with, validly_covers}
use Rattle.zone_dnssec.specs.ZoneKeys.{fits_key}
use Rattle.zone_dnssec.specs.declared.owned.Wanted.{Wanted}
use Rattle.zone_dnssec.specs.declared.owned.Wanted.TheVariants.{Soa, Signature, FittingSignature, Ttl, Unlisted, RequestOf, Request, RequestNamed, Chain, MoreThanHashes, ValidSignature, SignatureBy, KeyWith, ApexSignature, SigningNote, CurrentSignature}

-- the greater of two indexes
abbrev pub greater_of : ℕ → ℕ → ℕ
greater_of first past = if nat_lt first past then past else first

-- a record is wanted
abbrev pub is_wanted_record : {N O : Type 0} → Wanted → Record N O → Bool
is_wanted_record Soa r = type_of r == Rtype.soa
is_wanted_record (Signature rtype) r = covers rtype r
is_wanted_record (FittingSignature keys rtype) r = covers rtype r && fits_key keys.now r
is_wanted_record (Ttl rtype ttl) r = type_of r == rtype && r.ttl == ttl
is_wanted_record (Unlisted bitmap is_cut) r = is_unlisted is_cut bitmap.now r
is_wanted_record (RequestOf keys rtype) r = is_request_of keys.now rtype r
is_wanted_record (Request rtype) r = is_request_type rtype r
is_wanted_record (RequestNamed name rtype) r = is_request_named name rtype r
is_wanted_record Chain r = names_chain r
is_wanted_record MoreThanHashes r = not (is_hashed_denial r)
is_wanted_record (ValidSignature keys rtype) r = validly_covers keys.now rtype r
is_wanted_record (SignatureBy keys rtype algorithm) r = covers_by keys.now rtype algorithm r
is_wanted_record (KeyWith algorithm) r = is_key_with algorithm r
is_wanted_record ApexSignature r = is_apex_signature r
is_wanted_record SigningNote r = is_signing_note r
is_wanted_record (CurrentSignature keys rtype instant) r = covers_at keys.now rtype instant r

-- the record at an index is wanted
abbrev pub is_wanted_in : {N O : Type 0} → Wanted → List (Record N O) → ℕ → Bool
is_wanted_in wanted records place = option_map_or (is_wanted_record wanted) (slice_get records place) false

-- a record of a name is wanted
abbrev pub is_owned_wanted : {N O : Type 0} → Wanted → List (List ℕ) → Record N O → Bool
is_owned_wanted wanted name r = same_name r.owner name && is_wanted_record wanted r

-- some record of a name is wanted
abbrev pub has_owned : {N O : Type 0} → Wanted → List (List ℕ) → List (Record N O) → Bool
has_owned wanted name records = list_any (is_owned_wanted wanted name) records

-- the first index from one up to another at which a record is wanted
abbrev pub FindsWithin : {N O : Type 0} → Wanted → List (Record N O) → ℕ → ℕ → Option ℕ → Type 0
FindsWithin wanted records first past None = AllWithin (λ r. is_wanted_record wanted r ≡ false) records first past
FindsWithin wanted records first past (Some place) =
    (first ≤ place) × (place < past) × AllWithin (λ r. is_wanted_record wanted r ≡ false) records first place × (is_wanted_in wanted records place ≡ true)

-- the first record of a name that is wanted
abbrev pub find_owned : {N O : Type 0} → Wanted → List (List ℕ) → List (Record N O) → Option (Record N O)
find_owned wanted name records = find (is_owned_wanted wanted name) records

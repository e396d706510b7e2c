-- The digest of a zone in a store, and the records of a type at its apex.
use Rattle.std.specs.Prelude.{◌≡◌, ◌<◌, ◌&&◌, ℕ, not, Bool, true, false, All, MatchOption, Option, if◌then◌else◌, List, [], ◌∷◌, ◌++◌, length, map}
use Rattle.std.specs.Int.{to_be_bytes, w32}
use Rattle.std.specs.List.{dedup}
use Rattle.rdata_values.specs.Rtype as Rtype
use Rattle.rdata_values.specs.declared.types.RecordType.{RecordType}
use Rattle.zone_record.specs.Records.{data_of}
use Rattle.zone_record.specs.TypeData.{TypeData}
use Rattle.zone_record.specs.declared.record.Record.{Record}
use Rattle.zone_contents.specs.Changes.{contents_at}
use Rattle.zone_contents.specs.Contents.{contents, ZoneValue}
use Rattle.zone_contents.specs.Checks.{alike_count, apex_data, is_at_apex, HasSerial, HasVerdict, IsCheckError, IsChecked}
use Rattle.zone_contents.specs.Computed.{AppendsDigest, IsRightData, hash_code}
use Rattle.zone_store.specs.Duplicates.{is_duplicate_at}
use Rattle.zone_contents.specs.Hashed.{hashed_octets, is_hashed}
use Rattle.zone_contents.specs.Lookups.{same_key, AreCanonicalOf}
use Rattle.zone_contents.specs.Verdicts.{IsDigest}
use Rattle.zone_contents.specs.declared.algorithm.HashAlgorithm.{HashAlgorithm}
use Rattle.zone_contents.specs.declared.error.CheckError.{CheckError}
use Rattle.zone_contents.specs.declared.verdict.Verdict.{Verdict}
use Rattle.zone_contents.specs.declared.zonemd.Zonemd.{Zonemd}

-- the records of a zone, and of duplicates the first one
abbrev pub distinct_records : ZoneValue → List (Record (Unit {0}) (Unit {0}))
distinct_records z = dedup same_key (contents z)

-- these are the canonical set of the records of another zone
abbrev pub HasCanonicalSet : ZoneValue → ZoneValue → Type 0
HasCanonicalSet added sorted = AreCanonicalOf (contents added) (distinct_records sorted)

-- the octets that are hashed (RFC 8976 section 3.3)
abbrev pub zone_octets : List (List ℕ) → ZoneValue → List ℕ
zone_octets apex z = hashed_octets apex (distinct_records z)

-- the record at an index, unless it is a duplicate of the one before it
abbrev pub first_at : ZoneValue → ℕ → List (Record (Unit {0}) (Unit {0}))
first_at z place = if is_duplicate_at z.records place then [] else contents_at z place ∷ []

-- a record is hashed: its form takes memory
abbrev pub HasHashed : List (List ℕ) → ZoneValue → Type 0
HasHashed apex z = (place : ℕ) × (place < length z.records) × (is_duplicate_at z.records place ≡ false) × (is_hashed apex (contents_at z place) ≡ true)

-- the octets that are hashed of it are appended
abbrev pub AddsHashed : List (List ℕ) → ZoneValue → ℕ → List ℕ → List ℕ → Type 0
AddsHashed apex z place before after = after ≡ before ++ hashed_octets apex (first_at z place)

-- the RDATA of the record at an index
abbrev pub data_at : ZoneValue → ℕ → TypeData
data_at z place = data_of (contents_at z place)

-- the RDATA of a type at the apex
abbrev pub zone_apex_data : RecordType → List (List ℕ) → ZoneValue → List TypeData
zone_apex_data rtype apex z = apex_data rtype apex (distinct_records z)

-- the record at an index has a type, is at the apex, and is not a duplicate
abbrev pub is_chosen : RecordType → List (List ℕ) → ZoneValue → ℕ → Bool
is_chosen rtype apex z place = is_at_apex rtype apex (contents_at z place) && not (is_duplicate_at z.records place)

-- the index of such a record is appended
abbrev pub chosen_at : RecordType → List (List ℕ) → ZoneValue → ℕ → List ℕ
chosen_at rtype apex z place = if is_chosen rtype apex z place then place ∷ [] else []

abbrev pub AddsChosen : RecordType → List (List ℕ) → ZoneValue → ℕ → List ℕ → List ℕ → Type 0
AddsChosen rtype apex z place before after = after ≡ before ++ chosen_at rtype apex z place

-- the indexes of the records of a type at the apex, in canonical order and without duplicates
pub record AreApexPlaces (rtype : RecordType) (apex : List (List ℕ)) (z : ZoneValue) (places : List ℕ) : Type 0 where
  pub inside : All (λ place. place < length z.records) places
  pub types : All (λ place. (data_at z place).rtype ≡ rtype) places
  pub are : map (data_at z) places ≡ zone_apex_data rtype apex z

-- the serial of the one SOA at the apex; without a serial the apex has no SOA or more than one
abbrev pub FindsSerial : List (List ℕ) → ZoneValue → Option ℕ → Type 0
FindsSerial apex z found = MatchOption found ((serial : ℕ) → HasSerial apex (distinct_records z) serial → ⊥) (HasSerial apex (distinct_records z))

-- the number of ZONEMD at the apex with the scheme and the hash algorithm of one
abbrev pub zone_alike_count : Zonemd → List (List ℕ) → ZoneValue → ℕ
zone_alike_count one apex z = alike_count one (zone_apex_data Rtype.zonemd apex z)

-- the verdict on ZONEMD data in a zone of this serial
abbrev pub HasZoneVerdict : ℕ → List (List ℕ) → ZoneValue → TypeData → Verdict → Type 0
HasZoneVerdict serial apex z one verdict = HasVerdict serial (zone_octets apex z) (zone_apex_data Rtype.zonemd apex z) one verdict

-- a ZONEMD has the digest of a zone, by the algorithm that it names
abbrev pub HasZoneDigest : List (List ℕ) → ZoneValue → Zonemd → Type 0
HasZoneDigest apex z one = IsDigest one.hash (zone_octets apex z) one.digest.now

-- the verdicts on all ZONEMD at the apex (RFC 8976 section 4)
abbrev pub IsZoneChecked : List (List ℕ) → ZoneValue → List Verdict → Type 0
IsZoneChecked apex z verdicts = IsChecked apex (distinct_records z) verdicts

abbrev pub IsZoneCheckError : List (List ℕ) → ZoneValue → CheckError → Type 0
IsZoneCheckError apex z error = IsCheckError apex (distinct_records z) error

-- ZONEMD data that is right for a zone (RFC 8976 section 3)
abbrev pub IsRightForZone : List (List ℕ) → ZoneValue → HashAlgorithm → List ℕ → Type 0
IsRightForZone apex z algorithm made = IsRightData apex (distinct_records z) (hash_code algorithm) made

-- the digest of a zone is appended to octets
abbrev pub AddsZoneDigest : List (List ℕ) → ZoneValue → HashAlgorithm → List ℕ → List ℕ → Type 0
AddsZoneDigest apex z algorithm before after = AppendsDigest apex (distinct_records z) (hash_code algorithm) before after

-- the fields of ZONEMD data before the digest: a serial, the scheme SIMPLE, and a hash algorithm
abbrev pub simple_fields : ℕ → HashAlgorithm → List ℕ
simple_fields serial algorithm = to_be_bytes w32 serial ++ 1 ∷ hash_code algorithm ∷ []

-- ZONEMD data of these fields and the digest of a zone
abbrev pub IsDigestData : List (List ℕ) → ZoneValue → ℕ → HashAlgorithm → List ℕ → Type 0
IsDigestData apex z serial algorithm made = AddsZoneDigest apex z algorithm (simple_fields serial algorithm) made

-- The check of all ZONEMD records of a zone (RFC 8976 section 4).
use Rattle.std.specs.Prelude.{◌≡◌, ◌≢◌, ℕ, Bool, ◌==◌, ◌&&◌, Some, List, [], ◌∷◌, map, filter, count_by, slice_index}
use Rattle.rdata_values.specs.Rtype as Rtype
use Rattle.rdata_values.specs.declared.types.RecordType.{RecordType}
use Rattle.zone_record.specs.Records.{data_of}
use Rattle.zone_record.specs.TypeData.{TypeData}
use Rattle.zone_record.specs.declared.record.Record.{Record}
use Rattle.zone_serial.specs.Serials.{soa_serial}
use Rattle.zone_contents.specs.Hashed.{hashed_octets, is_apex}
use Rattle.zone_contents.specs.Verdicts.{IsVerdict, IsZonemd}
use Rattle.zone_contents.specs.declared.error.CheckError.{CheckError}
use Rattle.zone_contents.specs.declared.error.CheckError.TheVariants.{ShortBuf, NoSingleSoa}
use Rattle.zone_contents.specs.declared.verdict.Verdict.{Verdict}
use Rattle.zone_contents.specs.declared.zonemd.Zonemd.{Zonemd}

-- a record of a type at the apex
abbrev pub is_at_apex : {N O : Type 0} → RecordType → List (List ℕ) → Record N O → Bool
is_at_apex rtype apex r = ((data_of r).rtype == rtype) && is_apex apex r.owner

-- the data of these records, in order
abbrev pub apex_data : {N O : Type 0} → RecordType → List (List ℕ) → List (Record N O) → List TypeData
apex_data rtype apex records = map data_of (filter (is_at_apex rtype apex) records)

-- ZONEMD data with the scheme and the hash algorithm of another
abbrev pub is_alike : Zonemd → TypeData → Bool
is_alike z d = (slice_index d.octets 4 == z.scheme) && (slice_index d.octets 5 == z.hash)

abbrev pub alike_count : Zonemd → List TypeData → ℕ
alike_count z zonemds = count_by (is_alike z) zonemds

-- the verdict on ZONEMD data, among all ZONEMD data of the apex
abbrev pub HasVerdict : ℕ → List ℕ → List TypeData → TypeData → Verdict → Type 0
HasVerdict serial octets all d v = (z : Zonemd) × IsZonemd d z × IsVerdict serial octets (alike_count z all) z v

-- each of these data has the verdict at the same index
abbrev pub HaveVerdicts : ℕ → List ℕ → List TypeData → List TypeData → List Verdict → Type 0
HaveVerdicts serial octets all [] [] = Unit {0}
HaveVerdicts serial octets all [] (v ∷ verdicts) = ⊥
HaveVerdicts serial octets all (d ∷ zonemds) [] = ⊥
HaveVerdicts serial octets all (d ∷ zonemds) (v ∷ verdicts) = HasVerdict serial octets all d v × HaveVerdicts serial octets all zonemds verdicts

-- the apex has one SOA, with this serial
abbrev pub HasSerial : {N O : Type 0} → List (List ℕ) → List (Record N O) → ℕ → Type 0
HasSerial apex records serial = (soa : TypeData) × (apex_data Rtype.soa apex records ≡ soa ∷ []) × (soa_serial soa ≡ Some serial)

-- the verdicts of all ZONEMD records at the apex
abbrev pub IsChecked : {N O : Type 0} → List (List ℕ) → List (Record N O) → List Verdict → Type 0
IsChecked apex records verdicts = (serial : ℕ) × HasSerial apex records serial × HaveVerdicts serial (hashed_octets apex records) (apex_data Rtype.zonemd apex records) (apex_data Rtype.zonemd apex records) verdicts

-- memory was out, which an SOA at the apex takes first, or the apex has no SOA or more than one
abbrev pub IsCheckError : {N O : Type 0} → List (List ℕ) → List (Record N O) → CheckError → Type 0
IsCheckError apex records ShortBuf = apex_data Rtype.soa apex records ≢ []
IsCheckError apex records NoSingleSoa = (serial : ℕ) → HasSerial apex records serial → ⊥

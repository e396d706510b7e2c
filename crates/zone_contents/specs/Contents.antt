-- The records of a zone that are held in a store.
use Rattle.std.specs.Prelude.{◌≡◌, ℕ, Bool, true, All, List, [], ◌∷◌, ◌++◌, map, take}
use Rattle.std.specs.List.Sorted.{IsSorted}
use Rattle.dns_octets.specs.Lowered.{lowered}
use Rattle.zone_record.specs.Records.{data_of}
use Rattle.zone_record.specs.TypeData.{IsTypeData}
use Rattle.zone_record.specs.declared.record.Record.{Record}
use Rattle.zone_contents.specs.Keys.{key_in_zone, name_in_zone, IsNameKey}
use Rattle.zone_contents.specs.Summaries.{IsSummary}
use Rattle.zone_contents.specs.declared.summary.Summary.{Summary}
use Rattle.zone_store.specs.Stored.{AddedRecord, added_record, stored_order}

-- the apex of a zone, and records with the keys of their owners in it
pub record ZoneValue : Type 0 where
  pub apex : List (List ℕ)
  pub records : List AddedRecord

-- a record of a store, with its owner in lower case
abbrev pub listed_record : List (List ℕ) → AddedRecord → Record (Unit {0}) (Unit {0})
listed_record apex r = record { owner = name_in_zone apex r.key; ttl = r.parts.ttl; class = r.parts.class; «data» = record { rtype = r.parts.code; octets = r.parts.rdata } }

abbrev pub listing : List (List ℕ) → List AddedRecord → List (Record (Unit {0}) (Unit {0}))
listing apex records = map (listed_record apex) records

-- the records of a zone
abbrev pub contents : ZoneValue → List (Record (Unit {0}) (Unit {0}))
contents z = listing z.apex z.records

-- a record as it is stored, with the number of its file and its position there
abbrev pub stored_in_zone : {N O : Type 0} → List (List ℕ) → Record N O → ℕ → ℕ → AddedRecord
stored_in_zone apex r file offset =
    added_record (key_in_zone apex r.owner) (record { code = (data_of r).rtype; class = r.class; ttl = r.ttl; file = file; offset = offset; rdata = (data_of r).octets })

-- a record with its owner in lower case
abbrev pub with_lower_owner : {N O : Type 0} → Record N O → Record (Unit {0}) (Unit {0})
with_lower_owner r = record { owner = map lowered r.owner; ttl = r.ttl; class = r.class; «data» = r.«data» }

-- a record is stored after all others of a zone, and so is it among those that rules read
abbrev pub AddsStored : {N O : Type 0} → List (List ℕ) → List AddedRecord → List AddedRecord → Record N O → ℕ → ℕ → Type 0
AddsStored apex old new r file offset = new ≡ old ++ stored_in_zone apex r file offset ∷ []

abbrev pub AddsRecord : {N O : Type 0} → ZoneValue → ZoneValue → Record N O → ℕ → ℕ → Type 0
AddsRecord old new r file offset =
    (new.apex ≡ old.apex) × AddsStored old.apex old.records new.records r file offset × (contents new ≡ contents old ++ with_lower_owner r ∷ [])

-- a record has the key of a name, and RDATA of its type
pub record IsZoneRecord (apex : List (List ℕ)) (r : AddedRecord) : Type 0 where
  pub owner : IsNameKey apex r.key
  pub rdata : IsTypeData r.parts.code r.parts.rdata

-- records of a zone, and what they have in common
pub record AreZoneRecords (apex : List (List ℕ)) (records : List AddedRecord) (s : Summary) : Type 0 where
  pub are : All (IsZoneRecord apex) records
  pub summary : IsSummary (listing apex records) s

-- records of a zone in canonical order
pub record AreSortedRecords (apex : List (List ℕ)) (records : List AddedRecord) : Type 0 where
  pub are : All (IsZoneRecord apex) records
  pub sorted : IsSorted stored_order records

-- all records are known to have keys of names at the apex or below it, which begin with a 1
abbrev pub AreWithinZone : Bool → List AddedRecord → Type 0
AreWithinZone known records = known ≡ true → All (λ r. take 1 r.key ≡ 1 ∷ []) records

pub record IsStoredZone (apex : List (List ℕ)) (records : List AddedRecord) (s : Summary) (are_within : Bool) : Type 0 where
  pub records_are : AreSortedRecords apex records
  pub summary : IsSummary (listing apex records) s
  pub within : AreWithinZone are_within records

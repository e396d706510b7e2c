-- Searches among the sorted records of a zone: words for private functions.
use Rattle.std.specs.Prelude.{◌≡◌, ◌<◌, ◌≤◌, ◌==◌, ℕ, ◌-◌, Bool, false, All, Option, List, length, take, drop, option_and_then}
use Rattle.std.specs.List.{AllWithin, list_any}
use Rattle.zone_record.specs.declared.record.Record.{Record}
use Rattle.zone_contents.specs.Contents.{listing}
use Rattle.zone_contents.specs.declared.summary.Summary.{Summary}
use Rattle.zone_rules.specs.Present.{rrset_of_record}
use Rattle.zone_rules.specs.Zones.{has_type_at}
use Rattle.zone_rules.specs.Searches.{closest_above_earlier, shared_with}
use Rattle.zone_store.specs.Stored.{AddedRecord, record_at}

-- records from one index up to another have a key, and the next one has not
pub record EndsKey (key : List ℕ) (records : List AddedRecord) (first past : ℕ) : Type 0 where
  pub bound : past ≤ length records
  pub from : first ≤ past
  pub same : AllWithin (λ r. r.key ≡ key) records first past
  pub ends : past < length records → (record_at records past).key ≡ key → ⊥

-- records from an index on, up to a given one, have its key, and the one before the first of them has not
pub record BeginsKey (records : List AddedRecord) (place first : ℕ) : Type 0 where
  pub bound : first ≤ place
  pub same : AllWithin (λ r. r.key ≡ (record_at records place).key) records first place
  pub begins : 0 < first → (record_at records (first - 1)).key ≡ (record_at records place).key → ⊥

-- the closest name that a name and the owner of a record are at or below
abbrev pub shared_by : {N O : Type 0} → List (List ℕ) → Option (Record N O) → Option (List (List ℕ))
shared_by name r = option_and_then (shared_with rrset_of_record name) r

-- the closest ancestor of a name that is at or above an owner before it
abbrev pub closest_earlier : {N O : Type 0} → List (Record N O) → List (List ℕ) → Option (List (List ℕ))
closest_earlier records name = closest_above_earlier rrset_of_record records name

-- records are of the class of a summary, unless it says that they are of several
abbrev pub HaveClass : Summary → List AddedRecord → Type 0
HaveClass s records = s.has_classes ≡ false → All (λ r. r.parts.class ≡ s.class) records

-- a zone has a record of a type at a name
abbrev pub has_in_zone : ℕ → List (List ℕ) → List (List ℕ) → List AddedRecord → Bool
has_in_zone code name apex records = has_type_at code name (listing apex records)

-- a record from one index up to another has a type
abbrev pub has_type_within : ℕ → List AddedRecord → ℕ → ℕ → Bool
has_type_within code records first past = list_any (λ r. r.parts.code == code) (take (past - first) (drop first records))

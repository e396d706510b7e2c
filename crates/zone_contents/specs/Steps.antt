-- How two zones are compared, by the records at two indexes: words for private functions.
use Rattle.std.specs.Prelude.{◌≡◌, ◌≢◌, ◌<◌, ◌≤◌, ◌+◌, ℕ, Bool, true, false, All, Some, List, [], ◌∷◌, ◌++◌, length, drop}
use Rattle.std.specs.List.{dedup}
use Rattle.std.specs.Option.{option_to_list}
use Rattle.zone_record.specs.declared.record.Record.{Record}
use Rattle.zone_contents.specs.Changes.{change_of, changes_of, contents_at, IsInZones}
use Rattle.zone_contents.specs.Contents.{contents, ZoneValue}
use Rattle.zone_contents.specs.declared.changes.ZoneChange.{ZoneChange}
use Rattle.zone_contents.specs.declared.changes.ZoneStep.{ZoneStep}
use Rattle.zone_store.specs.Duplicates.{is_duplicate_at}
use Rattle.zone_contents.specs.Differences.{after_change, before_change, changed_record, AreChanges}
use Rattle.zone_contents.specs.Lookups.{same_key, AreCanonical}
use Rattle.zone_store.specs.Stored.{AddedRecord}
use Rattle.zone_contents.specs.declared.changes.Change.{Change}

-- the records from an index on, without duplicates
abbrev pub distinct_from : ZoneValue → ℕ → List (Record (Unit {0}) (Unit {0}))
distinct_from z place = dedup same_key (drop place (contents z))

-- there is a record at an index, with which the records from there on begin, or no record is left
pub record HasDistinct (z : ZoneValue) (place : ℕ) (has : Bool) : Type 0 where
  pub ordered : AreCanonical (distinct_from z place)
  pub inside : has ≡ true → place < length z.records
  pub first : has ≡ true → distinct_from z place ≡ contents_at z place ∷ drop 1 (distinct_from z place)
  pub none : has ≡ false → distinct_from z place ≡ []

-- records from one index up to another are duplicates of the one at the first index, and the next one is not
pub record EndsDuplicates (records : List AddedRecord) (place next : ℕ) : Type 0 where
  pub bound : next ≤ length records
  pub from : place < next
  pub same : (k : ℕ) → place < k → k < next → is_duplicate_at records k ≡ true
  pub ends : next < length records → is_duplicate_at records next ≡ false

-- the records from one index on are the one there, and those from the next index on
pub record SkipsDuplicates (z : ZoneValue) (place next : ℕ) : Type 0 where
  pub fewer : length (distinct_from z place) ≡ length (distinct_from z next) + 1
  pub are : distinct_from z place ≡ contents_at z place ∷ distinct_from z next

-- the change of two records that differ in their TTL
pub record IsNewTtl (old new : ZoneValue) (from to : ℕ) (c : ZoneChange) : Type 0 where
  pub other : (contents_at old from).ttl ≢ (contents_at new to).ttl
  pub inside : IsInZones old new c
  pub key : changed_record (change_of old new c) ≡ contents_at old from
  pub before : before_change (change_of old new c) ≡ Some (contents_at old from)
  pub after : after_change (change_of old new c) ≡ Some (contents_at new to)

-- two records have one TTL
abbrev pub SameTtl : ZoneValue → ZoneValue → ℕ → ℕ → Type 0
SameTtl old new from to = (contents_at old from).ttl ≡ (contents_at new to).ttl

-- no record is left from two indexes on
abbrev pub AtEnds : ZoneValue → ZoneValue → ℕ → ℕ → Type 0
AtEnds old new from to = (distinct_from old from ≡ []) × (distinct_from new to ≡ [])

-- fewer records are left, and their changes come after this one
pub record StepsOver (old new : ZoneValue) (from to : ℕ) (step : ZoneStep) : Type 0 where
  pub fewer : length (distinct_from old step.old) + length (distinct_from new step.new) < length (distinct_from old from) + length (distinct_from new to)
  pub inside : All (IsInZones old new) (option_to_list step.change)
  pub goes_on : (rest : List (Change (Unit {0}) (Unit {0}))) → AreChanges (distinct_from old step.old) (distinct_from new step.new) rest
      → AreChanges (distinct_from old from) (distinct_from new to) (changes_of old new (option_to_list step.change) ++ rest)

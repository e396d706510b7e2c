-- How the records of two zones differ.
use Rattle.std.specs.Prelude.{◌<◌, ℕ, List, length, map}
use Rattle.std.specs.Borrow.{Bor}
use Rattle.zone_record.specs.declared.record.Record.{Record}
use Rattle.zone_contents.specs.Contents.{contents, listed_record, ZoneValue}
use Rattle.zone_contents.specs.declared.changes.ZoneChange.{ZoneChange}
use Rattle.zone_contents.specs.declared.changes.ZoneChange.TheVariants.{Removed, Added, NewTtl}
use Rattle.zone_contents.specs.Differences.{AreChanges, HoldSame, MakeOf}
use Rattle.zone_store.specs.Stored.{record_at}
use Rattle.zone_contents.specs.declared.changes.Change.{Change}
use Rattle.zone_contents.specs.declared.changes.Change.TheVariants as Set

-- the record of a zone at an index
abbrev pub contents_at : ZoneValue → ℕ → Record (Unit {0}) (Unit {0})
contents_at z place = listed_record z.apex (record_at z.records place)

-- a reference to a value
abbrev pub lent : {X : Type 0} → X → Bor X
lent x = record { ref_ptr = (0, 0); now = x }

-- a change, with the records at its indexes
abbrev pub change_of : ZoneValue → ZoneValue → ZoneChange → Change (Unit {0}) (Unit {0})
change_of old new (Removed place) = Set.Removed (lent (contents_at old place))
change_of old new (Added place) = Set.Added (lent (contents_at new place))
change_of old new (NewTtl before after) = Set.NewTtl (lent (contents_at old before)) (lent (contents_at new after))

abbrev pub changes_of : ZoneValue → ZoneValue → List ZoneChange → List (Change (Unit {0}) (Unit {0}))
changes_of old new changes = map (change_of old new) changes

-- the zones have records at the indexes of a change
abbrev pub IsInZones : ZoneValue → ZoneValue → ZoneChange → Type 0
IsInZones old new (Removed place) = place < length old.records
IsInZones old new (Added place) = place < length new.records
IsInZones old new (NewTtl before after) = (before < length old.records) × (after < length new.records)

-- the changes between all records of two zones, of which the first counts under each key
abbrev pub AreZoneChanges : ZoneValue → ZoneValue → List ZoneChange → Type 0
AreZoneChanges old new changes = AreChanges (contents old) (contents new) (changes_of old new changes)

-- the changes turn the first zone into the second
abbrev pub MakeZone : ZoneValue → List ZoneChange → ZoneValue → Type 0
MakeZone old changes new = MakeOf (contents old) (changes_of old new changes) (contents new)

-- under each key both zones have the same TTL, or neither has the key
abbrev pub HoldSameRecords : ZoneValue → ZoneValue → Type 0
HoldSameRecords old new = HoldSame (contents old) (contents new)

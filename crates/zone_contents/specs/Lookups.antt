-- The record of a list under a key: owner, class, type and data in canonical form.
use Rattle.std.specs.Prelude.{◌≡◌, Bool, Option, List, find}
use Rattle.std.specs.List.Sorted.{IsStrictlySortedBy}
use Rattle.std.specs.Ordering.{eq_by_cmp}
use Rattle.std.specs.declared.cmp.Ordering.{Ordering}
use Rattle.zone_record.specs.CanonicalRecords.{record_order}
use Rattle.zone_record.specs.CanonicalData.{record_key}
use Rattle.zone_record.specs.declared.record.Record.{Record}

-- the order of RFC 4034 section 6, in which TTLs don't count
abbrev pub canonical_order : {N O : Type 0} → Record N O → Record N O → Ordering
canonical_order a b = record_order (record_key a) (record_key b)

-- whether two records have one owner, class, type and data
abbrev pub same_key : {N O : Type 0} → Record N O → Record N O → Bool
same_key a b = eq_by_cmp canonical_order a b

-- the first record with the key of a record
abbrev pub record_under : {N O : Type 0} → Record N O → List (Record N O) → Option (Record N O)
record_under r records = find (same_key r) records

-- in canonical order, and each key once
abbrev pub AreCanonical : {N O : Type 0} → List (Record N O) → Type 0
AreCanonical records = IsStrictlySortedBy canonical_order records

-- the list is in canonical order, and has under each key the first record that other records have
pub record AreCanonicalOf {N O : Type 0} (records : List (Record N O)) (canonical : List (Record N O)) : Type 0 where
  pub ordered : AreCanonical canonical
  pub firsts : (r : Record N O) → record_under r canonical ≡ record_under r records

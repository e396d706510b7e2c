-- How two sets of records differ.
use Rattle.std.specs.Prelude.{◌≡◌, ◌≢◌, ℕ, true, ◌⊎◌, Option, Some, None, option_map, List, find, All, Any}
use Rattle.std.specs.List.Sorted.{IsStrictlySortedBy}
use Rattle.zone_record.specs.declared.record.Record.{Record}
use Rattle.zone_contents.specs.Lookups.{canonical_order, same_key, record_under}
use Rattle.zone_contents.specs.declared.changes.Change.{Change}
use Rattle.zone_contents.specs.declared.changes.Change.TheVariants.{Removed, Added, NewTtl}

-- the record of the first set under the key of a change
abbrev pub before_change : {N O : Type 0} → Change N O → Option (Record N O)
before_change (Removed r) = Some r.now
before_change (Added r) = None
before_change (NewTtl old new) = Some old.now

-- the record of the second set
abbrev pub after_change : {N O : Type 0} → Change N O → Option (Record N O)
after_change (Removed r) = None
after_change (Added r) = Some r.now
after_change (NewTtl old new) = Some new.now

-- a record with the key of a change
abbrev pub changed_record : {N O : Type 0} → Change N O → Record N O
changed_record (Removed r) = r.now
changed_record (Added r) = r.now
changed_record (NewTtl old new) = old.now

abbrev pub ttl_of : {N O : Type 0} → Option (Record N O) → Option ℕ
ttl_of found = option_map (λ r. r.ttl) found

-- the TTL that a set has under the key of a record, if it has the key
abbrev pub ttl_under : {N O : Type 0} → Record N O → List (Record N O) → Option ℕ
ttl_under r records = ttl_of (record_under r records)

-- a change has what both sets have under its key, and these differ
abbrev pub DescribesChange : {N O : Type 0} → List (Record N O) → List (Record N O) → Change N O → Type 0
DescribesChange old new c =
    (before_change c ≡ record_under (changed_record c) old) × (after_change c ≡ record_under (changed_record c) new) × (ttl_of (before_change c) ≢ ttl_of (after_change c))

-- in canonical order, one change of each key under which the sets differ
pub record AreChanges {N O : Type 0} (old new : List (Record N O)) (changes : List (Change N O)) : Type 0 where
  pub ordered : IsStrictlySortedBy (λ c d. canonical_order (changed_record c) (changed_record d)) changes
  pub told : All (DescribesChange old new) changes
  pub complete : (r : Record N O) → (ttl_under r old ≡ ttl_under r new) ⊎ Any (λ c. same_key r (changed_record c) ≡ true) changes

-- under each key both sets have the same TTL, or neither has the key
abbrev pub HoldSame : {N O : Type 0} → List (Record N O) → List (Record N O) → Type 0
HoldSame {N} {O} old new = (r : Record N O) → ttl_under r old ≡ ttl_under r new

-- the TTL after a change, or without a change the one before
abbrev pub ttl_of_change : {N O : Type 0} → Option (Change N O) → Option ℕ → Option ℕ
ttl_of_change None ttl = ttl
ttl_of_change (Some c) ttl = ttl_of (after_change c)

-- the changes turn the first set into the second: the records that they name are removed, added or given a new TTL, and all others stay
abbrev pub MakeOf : {N O : Type 0} → List (Record N O) → List (Change N O) → List (Record N O) → Type 0
MakeOf {N} {O} old changes new = (r : Record N O) → ttl_under r new ≡ ttl_of_change (find (λ c. same_key r (changed_record c)) changes) (ttl_under r old)

-- Searches among owners in order.
use Rattle.std.specs.Prelude.{ℕ, ◌≡◌, ◌≤◌, ◌-◌, ◌==◌, ◌&&◌, ◌||◌, nat_lt, if◌then◌else◌, Bool, IsTrue, true, false, Option, Some, None, List, length, slice_get}
use Rattle.std.specs.List.{AllAdjacentBelow, AllWithin, find, list_any}
use Rattle.std.specs.List.Sorted.{IsPartitionPoint}
use Rattle.std.specs.Ordering.{is_le, is_lt}
use Rattle.zone_record.specs.Names.{name_order}
use Rattle.rdata_values.specs.declared.types.RecordType.{RecordType}
use Rattle.zone_record.specs.declared.record.Record.{Record}
use Rattle.dns_wire.specs.Order.{same_name}
use Rattle.dns_wire.specs.Wire.{wire_length}
use Rattle.zone_rules.specs.Above.{closest_from, is_within, names_above}
use Rattle.zone_rules.specs.Present.{rrset_of_record, set_order}
use Rattle.zone_rules.specs.declared.refused.RrsetName.{RrsetName}

-- items are in the order of the owners of their RRsets
abbrev pub AreOwnersInOrder : {X : Type 0} → (X → RrsetName) → List X → Type 0
AreOwnersInOrder rrset items = AllAdjacentBelow (λ a b. IsTrue (is_le (name_order (rrset a).owner (rrset b).owner))) items (length items)

-- items are in the order of their RRsets
abbrev pub AreRrsetsInOrder : {X : Type 0} → (X → RrsetName) → List X → Type 0
AreRrsetsInOrder rrset items = AllAdjacentBelow (λ a b. IsTrue (is_le (set_order (rrset a) (rrset b)))) items (length items)

-- an owner before a name is at or below another name
abbrev pub is_above_earlier : {X : Type 0} → (X → RrsetName) → List X → List (List ℕ) → List (List ℕ) → Bool
is_above_earlier rrset items name above = list_any (λ x. is_lt (name_order (rrset x).owner name) && is_within (rrset x).owner above) items

-- the closest ancestor of a name that has such an owner at or below it
abbrev pub closest_above_earlier : {X : Type 0} → (X → RrsetName) → List X → List (List ℕ) → Option (List (List ℕ))
closest_above_earlier rrset items name = find (is_above_earlier rrset items name) (names_above name)

-- the closest ancestor that has one among records, or among RRsets with a rejected entry
abbrev pub closest_above_some : {N O : Type 0} → List (Record N O) → List RrsetName → List (List ℕ) → Option (List (List ℕ))
closest_above_some records refused name =
    find (λ above. is_above_earlier rrset_of_record records name above || is_above_earlier (λ s. s) refused name above) (names_above name)

-- the owner of an item is at a name or below it
abbrev pub is_owned_within : {X : Type 0} → (X → RrsetName) → List X → List (List ℕ) → Bool
is_owned_within rrset items above = list_any (λ x. is_within (rrset x).owner above) items

-- the closest name that a name and the owner of an item are at or below
abbrev pub shared_with : {X : Type 0} → (X → RrsetName) → List (List ℕ) → X → Option (List (List ℕ))
shared_with rrset name x = closest_from (is_within (rrset x).owner) name

-- an item is of an RRset of a type at a name
abbrev pub has_rrset : {X : Type 0} → (X → RrsetName) → RecordType → List (List ℕ) → List X → Bool
has_rrset rrset rtype name items = list_any (λ x. same_name (rrset x).owner name && (rrset x).rtype == rtype) items

-- the number of items whose owners come before a name, which come first
abbrev pub PartsBefore : {X : Type 0} → (X → RrsetName) → List (List ℕ) → List X → ℕ → Type 0
PartsBefore rrset name items count =
    IsPartitionPoint (λ x. is_lt (name_order (rrset x).owner name) ≡ true) (λ x. is_lt (name_order (rrset x).owner name) ≡ false) items count

-- the number of records whose owners are a name or come before it in canonical order, which come first
abbrev pub PartsUpTo : {N O : Type 0} → List (List ℕ) → List (Record N O) → ℕ → Type 0
PartsUpTo name records count =
    IsPartitionPoint (λ r. is_le (name_order r.owner name) ≡ true) (λ r. is_le (name_order r.owner name) ≡ false) records count

-- the records whose owner is a name are those from one index up to another; the owners of the records before the first index come before the name, and no others do
pub record AreOwnedFrom {N O : Type 0} (name : List (List ℕ)) (records : List (Record N O)) (first past : ℕ) : Type 0 where
  pub parts : IsPartitionPoint (λ r. is_lt (name_order r.owner name) ≡ true) (λ r. is_lt (name_order r.owner name) ≡ false) records first
  pub bound : past ≤ length records
  pub before : AllWithin (λ r. same_name r.owner name ≡ false) records 0 first
  pub owned : AllWithin (λ r. same_name r.owner name ≡ true) records first past
  pub after : AllWithin (λ r. same_name r.owner name ≡ false) records past (length records)

-- the same, of the owner of the record at an index
abbrev pub AreOwnedAt : {N O : Type 0} → List (Record N O) → ℕ → ℕ → ℕ → Type 0
AreOwnedAt {N} {O} records place first past = (r : Record N O) → slice_get records place ≡ Some r → AreOwnedFrom r.owner records first past

-- the item before an index
abbrev pub before_place : {X : Type 0} → List X → ℕ → Option X
before_place items place = if place == 0 then None else slice_get items (place - 1)

-- the name with more octets, and the first of two of equal length
abbrev pub longer_name : Option (List (List ℕ)) → Option (List (List ℕ)) → Option (List (List ℕ))
longer_name None other = other
longer_name (Some one) None = Some one
longer_name (Some one) (Some other) = if nat_lt (wire_length one) (wire_length other) then Some other else Some one

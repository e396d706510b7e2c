use Rattle.std.proofs.Common.{ℕ, List, sym, subst}
use Rattle.std.specs.Prelude.{All}
use Rattle.std.specs.List.Sorted.{IsPermutation, IsSorted, IsStable}
use Rattle.std.proofs.lemmas.List.Sorted.{All-permutation}
use Rattle.zone_store.specs.Entries.{entry_order, IsStoreEntry}
use Rattle.zone_store.specs.Stored.{AddedRecord, stored_order}
use Rattle.zone_store.specs.Stores.{stored_records}
use Rattle.zone_store.proofs.StoreSorts.{moved_records, sorted_records, stable_records}
use Rattle.zone_store.proofs.store.RecordStore.sort.Goals as goal

pub sort_entries-requires : goal.sort_entries-requires
sort_entries-requires g c = subst (λ (os : List ℕ). All (IsStoreEntry os) c.self.inside.entries.items) (sym c.as_slice.ensures.value) c.self.invariant.are

pub invariant_of-result : goal.invariant_of-result
invariant_of-result g c =
    let octets = c.self.inside.octets.items in
    let new = c.sort_entries.new.entries.items in
    let sorted : IsSorted (entry_order octets) new = subst (λ (os : List ℕ). IsSorted (entry_order os) new) c.as_slice.ensures.value c.sort_entries.ensures.sorted in
    record {
      are = All-permutation (IsStoreEntry octets) c.self.inside.entries.items new c.sort_entries.ensures.permutation c.self.invariant.are;
      sorted = sorted_records octets new sorted;
    }

pub returns-clause-permutation : goal.returns-clause-permutation
returns-clause-permutation g c =
    let octets = c.self.inside.octets.items in
    let new = c.sort_entries.new.entries.items in
    subst (λ (rs : List AddedRecord). IsPermutation rs (stored_records octets new)) c.self.view_is (moved_records octets c.self.inside.entries.items new c.sort_entries.ensures.permutation)

pub returns-clause-sorted : goal.returns-clause-sorted
returns-clause-sorted g c =
    let new = c.sort_entries.new.entries.items in
    let sorted : IsSorted (entry_order c.self.inside.octets.items) new = subst (λ (os : List ℕ). IsSorted (entry_order os) new) c.as_slice.ensures.value c.sort_entries.ensures.sorted in
    sorted_records c.self.inside.octets.items new sorted

pub returns-clause-stable : goal.returns-clause-stable
returns-clause-stable g c =
    let octets = c.self.inside.octets.items in
    let old = c.self.inside.entries.items in
    let new = c.sort_entries.new.entries.items in
    let sorted : IsSorted (entry_order octets) new = subst (λ (os : List ℕ). IsSorted (entry_order os) new) c.as_slice.ensures.value c.sort_entries.ensures.sorted in
    subst (λ (rs : List AddedRecord). IsStable stored_order rs (stored_records octets new)) c.self.view_is
    (stable_records octets old new c.self.invariant.are c.self.invariant.rise c.sort_entries.ensures.permutation sorted)

use Rattle.std.proofs.Common.{ap, subst}
use Rattle.std.specs.List.Sorted.{IsPermutation, IsStable}
use Rattle.std.proofs.lemmas.List.Sorted.{All-permutation, IsPermutation-map}
use Rattle.zone_contents.specs.Contents.{listed_record, listing, IsZoneRecord}
use Rattle.zone_contents.specs.Digests.{HasCanonicalSet}
use Rattle.zone_contents.proofs.SortedSets.{sorted_canonical}
use Rattle.zone_contents.proofs.Summed.{summed_sorted}
use Rattle.zone_store.specs.Stored.{stored_order}
use Rattle.zone_contents.proofs.stored.ZoneStore.sort.Goals as goal

pub invariant_of-result : goal.invariant_of-result
invariant_of-result g c =
    let apex = c.self.inside.apex in
    let old = c.self.inside.store in
    let new = c.sort-store.result in
    record {
      records_are = record { are = All-permutation (IsZoneRecord apex) old new c.sort-store.ensures.permutation c.self.invariant.are; sorted = c.sort-store.ensures.sorted };
      summary = summed_sorted (listing apex old) (listing apex new) c.self.inside.summary (IsPermutation-map (listed_record apex) old new c.sort-store.ensures.permutation) c.self.invariant.summary;
      within = c.are_within.ensures;
    }

pub returns-clause-apex : goal.returns-clause-apex
returns-clause-apex g c = ap (λ z. z.apex) c.self.view_is

pub returns-clause-permutation : goal.returns-clause-permutation
returns-clause-permutation g c = subst (λ z. IsPermutation z.records c.sort-store.result) c.self.view_is c.sort-store.ensures.permutation

pub returns-clause-stable : goal.returns-clause-stable
returns-clause-stable g c = subst (λ z. IsStable stored_order z.records c.sort-store.result) c.self.view_is c.sort-store.ensures.stable

pub returns-clause-canonical : goal.returns-clause-canonical
returns-clause-canonical g c =
    let apex = c.self.inside.apex in
    let old = c.self.inside.store in
    let new = c.sort-store.result in
    subst (λ z. HasCanonicalSet z (record { apex = apex; records = new })) c.self.view_is
    (sorted_canonical apex old new c.self.invariant.are (All-permutation (IsZoneRecord apex) old new c.sort-store.ensures.permutation c.self.invariant.are) c.sort-store.ensures.stable c.sort-store.ensures.sorted)

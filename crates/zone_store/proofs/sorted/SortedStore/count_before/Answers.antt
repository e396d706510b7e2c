use Rattle.std.proofs.Common.{ℕ, List, ◌∙◌, length, sym, ap, arith, subst}
use Rattle.std.proofs.lemmas.List.{length-map}
use Rattle.zone_store.specs.Entries.{record_of}
use Rattle.zone_store.specs.Stored.{AddedRecord, CountsBeforeKey}
use Rattle.zone_store.specs.Stores.{stored_records, IsSortedStore}
use Rattle.zone_store.specs.declared.entries.Entry.{Entry}
use Rattle.zone_store.proofs.sorted.SortedStore.count_before.Goals as goal

pub count_before_key-requires : goal.count_before_key-requires
count_before_key-requires g c =
    subst (λ (os : List ℕ). IsSortedStore os c.as_slice-entries.result.now) (sym c.as_slice-octets.ensures.value)
    (subst (λ (es : List Entry). IsSortedStore c.self.inside.octets.items es) (sym c.as_slice-entries.ensures.value) c.self.invariant)

pub returns-clause-bound : goal.returns-clause-bound
returns-clause-bound g c =
    omega (arith, c.count_before_key.ensures.bound, ap length c.as_slice-entries.ensures.value, ap length c.self.view_is, length-map c.self.inside.entries.items (record_of c.self.inside.octets.items))

pub returns-clause-point : goal.returns-clause-point
returns-clause-point g c =
    subst (λ (rs : List AddedRecord). CountsBeforeKey c.args.key.now rs c.count_before_key.result) ((λ i. stored_records (c.as_slice-octets.ensures.value i) (c.as_slice-entries.ensures.value i)) ∙ c.self.view_is) c.count_before_key.ensures.point

use Rattle.std.proofs.Common.{ℕ, List, ◌∙◌, ◌<◌, length, sym, ap, arith, subst}
use Rattle.std.specs.Prelude.{All}
use Rattle.std.proofs.lemmas.List.{length-map}
use Rattle.zone_record.specs.Names.{octet_order}
use Rattle.zone_store.specs.Entries.{record_of, IsStoreEntry}
use Rattle.zone_store.specs.Stored.{record_at}
use Rattle.zone_store.specs.Stores.{stored_records}
use Rattle.zone_store.specs.declared.entries.Entry.{Entry}
use Rattle.zone_store.proofs.sorted.SortedStore.compare_key.Goals as goal

pub compare_key_by_index-requires-clause-index : goal.compare_key_by_index-requires-clause-index
compare_key_by_index-requires-clause-index g c =
    subst (λ (es : List Entry). c.args.index < length es) (sym c.as_slice-entries.ensures.value)
    (omega (arith, c.requires, ap length c.self.view_is, length-map c.self.inside.entries.items (record_of c.self.inside.octets.items)))

pub compare_key_by_index-requires-clause-stored : goal.compare_key_by_index-requires-clause-stored
compare_key_by_index-requires-clause-stored g c =
    subst (λ (os : List ℕ). All (IsStoreEntry os) c.as_slice-entries.result.now) (sym c.as_slice-octets.ensures.value)
    (subst (λ (es : List Entry). All (IsStoreEntry c.self.inside.octets.items) es) (sym c.as_slice-entries.ensures.value) c.self.invariant.are)

pub returns : goal.returns
returns g c =
    c.compare_key_by_index.ensures
    ∙ (λ i. octet_order (record_at (stored_records (c.as_slice-octets.ensures.value i) (c.as_slice-entries.ensures.value i)) c.args.index).key c.args.key.now)
    ∙ ap (λ rs. octet_order (record_at rs c.args.index).key c.args.key.now) c.self.view_is

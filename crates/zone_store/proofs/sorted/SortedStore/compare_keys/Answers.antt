use Rattle.std.proofs.Common.{ℕ, List, ◌∙◌, ◌<◌, length, sym, ap, arith, subst}
use Rattle.std.specs.Prelude.{All}
use Rattle.std.proofs.lemmas.List.{length-map}
use Rattle.zone_record.specs.Names.{octet_order}
use Rattle.zone_store.specs.Entries.{record_of, IsStoreEntry}
use Rattle.zone_store.specs.Stored.{record_at}
use Rattle.zone_store.specs.Stores.{stored_records}
use Rattle.zone_store.specs.declared.entries.Entry.{Entry}
use Rattle.zone_store.proofs.sorted.SortedStore.compare_keys.Goals as goal

pub compare_keys_by_index-requires-clause-left : goal.compare_keys_by_index-requires-clause-left
compare_keys_by_index-requires-clause-left g c =
    subst (λ (es : List Entry). c.args.left < length es) (sym c.as_slice-entries.ensures.value)
    (omega (arith, c.requires.left, ap length c.self.view_is, length-map c.self.inside.entries.items (record_of c.self.inside.octets.items)))

pub compare_keys_by_index-requires-clause-right : goal.compare_keys_by_index-requires-clause-right
compare_keys_by_index-requires-clause-right g c =
    subst (λ (es : List Entry). c.args.right < length es) (sym c.as_slice-entries.ensures.value)
    (omega (arith, c.requires.right, ap length c.self.view_is, length-map c.self.inside.entries.items (record_of c.self.inside.octets.items)))

pub compare_keys_by_index-requires-clause-stored : goal.compare_keys_by_index-requires-clause-stored
compare_keys_by_index-requires-clause-stored g c =
    subst (λ (os : List ℕ). All (IsStoreEntry os) c.as_slice-entries.result.now) (sym c.as_slice-octets.ensures.value)
    (subst (λ (es : List Entry). All (IsStoreEntry c.self.inside.octets.items) es) (sym c.as_slice-entries.ensures.value) c.self.invariant.are)

pub returns : goal.returns
returns g c =
    c.compare_keys_by_index.ensures
    ∙ (λ i. octet_order (record_at (stored_records (c.as_slice-octets.ensures.value i) (c.as_slice-entries.ensures.value i)) c.args.left).key (record_at (stored_records (c.as_slice-octets.ensures.value i) (c.as_slice-entries.ensures.value i)) c.args.right).key)
    ∙ ap (λ rs. octet_order (record_at rs c.args.left).key (record_at rs c.args.right).key) c.self.view_is

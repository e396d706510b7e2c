use Rattle.std.proofs.Common.{List, ◌∙◌, ◌<◌, length, sym, ap, arith, subst}
use Rattle.std.proofs.lemmas.List.{length-map}
use Rattle.zone_store.specs.Entries.{record_of}
use Rattle.zone_store.specs.Stored.{record_at}
use Rattle.zone_store.specs.Stores.{stored_records}
use Rattle.zone_store.specs.declared.entries.Entry.{Entry}
use Rattle.zone_store.proofs.sorted.SortedStore.entry.Goals as goal

pub parts_by_index-requires : goal.parts_by_index-requires
parts_by_index-requires g c =
    subst (λ (es : List Entry). c.args.index < length es) (sym c.as_slice-entries.ensures.value)
    (omega (arith, c.requires, ap length c.self.view_is, length-map c.self.inside.entries.items (record_of c.self.inside.octets.items)))

pub returns : goal.returns
returns g c =
    c.parts_by_index.ensures
    ∙ (λ i. (record_at (stored_records (c.as_slice-octets.ensures.value i) (c.as_slice-entries.ensures.value i)) c.args.index).parts)
    ∙ ap (λ rs. (record_at rs c.args.index).parts) c.self.view_is

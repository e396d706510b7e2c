use Rattle.std.proofs.Common.{List, ◌∙◌, ◌<◌, length, sym, ap, arith, subst}
use Rattle.std.proofs.lemmas.List.{length-map}
use Rattle.zone_store.specs.Entries.{record_of}
use Rattle.zone_store.specs.Stored.{record_at}
use Rattle.zone_store.specs.Stores.{stored_records}
use Rattle.zone_store.specs.declared.entries.Entry.{Entry}
use Rattle.zone_store.proofs.sorted.SortedStore.class_and_type.Goals as goal

pub type_by_index-requires : goal.type_by_index-requires
type_by_index-requires g c =
    subst (λ (es : List Entry). c.args.index < length es) (sym c.as_slice-entries.ensures.value)
    (omega (arith, c.requires, ap length c.self.view_is, length-map c.self.inside.entries.items (record_of c.self.inside.octets.items)))

pub returns-clause-class : goal.returns-clause-class
returns-clause-class g c =
    c.type_by_index.ensures.class
    ∙ (λ i. (record_at (stored_records (c.as_slice-octets.ensures.value i) (c.as_slice-entries.ensures.value i)) c.args.index).parts.class)
    ∙ ap (λ rs. (record_at rs c.args.index).parts.class) c.self.view_is

pub returns-clause-rtype : goal.returns-clause-rtype
returns-clause-rtype g c =
    c.type_by_index.ensures.rtype
    ∙ (λ i. (record_at (stored_records (c.as_slice-octets.ensures.value i) (c.as_slice-entries.ensures.value i)) c.args.index).parts.code)
    ∙ ap (λ rs. (record_at rs c.args.index).parts.code) c.self.view_is

use Rattle.std.proofs.Common.{sym, subst, ◌∙◌}
use Rattle.dns_wire.specs.Labelled.{wire_same}
use Rattle.zone_contents.specs.Contents.{contents, AreSortedRecords}
use Rattle.zone_rules.specs.Searches.{AreOwnedFrom}
use Rattle.zone_contents.proofs.stored.StoredZone.apex_range.Goals as goal

pub returns-clause-sorted : goal.returns-clause-sorted
returns-clause-sorted g c = subst (λ z. AreSortedRecords z.apex z.records) c.self.view_is c.self.invariant.records_are

pub returns-clause-owned : goal.returns-clause-owned
returns-clause-owned g c =
    let first = c.places.result.0 in
    let past = c.places.result.1 in
    subst (λ z. AreOwnedFrom c.args.apex.now (contents z) first past) c.self.view_is
    (subst (λ n. AreOwnedFrom n (contents (record { apex = c.self.inside.apex; records = c.self.inside.store })) first past)
    (wire_same c.name_of.result c.args.apex.now (sym c.name_of.ensures ∙ c.octets_of.ensures.value)) c.places.ensures.owned)

pub places-requires : goal.places-requires
places-requires g c = c.self.invariant.records_are

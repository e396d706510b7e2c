use Rattle.std.proofs.Common.{ap, ◌∙◌}
use Rattle.zone_rules.specs.Searches.{longer_name}
use Rattle.zone_rules.proofs.NameParts.{ends_some}
use Rattle.zone_rules.proofs.Neighbours.{shared, closest_is}
use Rattle.zone_rules.proofs.search.closest.Goals as goal

pub returns : goal.returns
returns g c =
    let rrset = g.T.OfRrset.rrset in
    let name = c.args.name.now in
    let all = c.args.items.now in
    c.longer.ensures
    ∙ (λ i. longer_name ((c.shared_with.ensures ∙ ap (shared rrset all c.requires name) c.item_before.ensures) i) ((c.shared_with-2.ensures ∙ ap (shared rrset all c.requires name) c.item_at.ensures) i))
    ∙ closest_is rrset all c.requires name (ends_some name c.octets_of-octets.ensures.absolute) c.count_before-place.result c.count_before-place.ensures.point c.count_before-place.ensures.bound

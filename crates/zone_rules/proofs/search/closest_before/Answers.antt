use Rattle.std.proofs.Common.{ap, ◌∙◌}
use Rattle.zone_rules.proofs.NameParts.{ends_some}
use Rattle.zone_rules.proofs.Neighbours.{shared, shared_before}
use Rattle.zone_rules.proofs.search.closest_before.Goals as goal

pub returns : goal.returns
returns g c =
    let rrset = g.T.OfRrset.rrset in
    let name = c.args.name.now in
    let all = c.args.items.now in
    c.shared_with.ensures ∙ ap (shared rrset all c.requires name) c.item_before.ensures
    ∙ shared_before rrset all c.requires name (ends_some name c.octets_of-octets.ensures.absolute) c.count_before.result c.count_before.ensures.point c.count_before.ensures.bound

use Rattle.std.proofs.Common.{arith, ◌∙◌}
use Rattle.zone_contents.specs.Contents.{listing}
use Rattle.zone_contents.proofs.Listings.{listed_length, owners_in_order}
use Rattle.zone_rules.specs.Present.{rrset_of_record}
use Rattle.zone_rules.proofs.NameParts.{ends_some}
use Rattle.zone_rules.proofs.Neighbours.{shared_before}
use Rattle.zone_contents.proofs.searches.closest_before.Goals as goal

pub returns : goal.returns
returns g c =
    let apex = c.args.apex.now in
    let records = c.args.store.now in
    let name = c.args.name.now in
    c.shared_before.ensures
    ∙ shared_before rrset_of_record (listing apex records) (owners_in_order apex records c.requires.are c.requires.sorted) name (ends_some name c.octets_of-octets.ensures.absolute) c.count_before-place.result
    c.count_before-place.ensures.point (omega (arith, c.count_before-place.ensures.bound, listed_length apex records))

use Rattle.std.proofs.Common.{◌∙◌}
use Rattle.zone_contents.proofs.Listings.{within_is}
use Rattle.zone_contents.proofs.lookups.has_type_of_classes.Goals as goal

pub returns : goal.returns
returns g c =
    c.has_type_within.ensures
    ∙ within_is c.args.apex.now c.args.name.now c.args.store.now c.places-first.result.0 c.places-first.result.1 c.args.rtype c.places-first.ensures.from c.places-first.ensures.owned

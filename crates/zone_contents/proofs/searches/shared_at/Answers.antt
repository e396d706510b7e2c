use Rattle.std.proofs.Common.{ap, sym, ◌∙◌}
use Rattle.zone_rules.specs.Above.{closest_from, is_within}
use Rattle.zone_contents.specs.Searches.{shared_by}
use Rattle.zone_contents.proofs.Listings.{listed_get}
use Rattle.zone_contents.proofs.searches.shared_at.Goals as goal

pub returns : goal.returns
returns g c =
    sym c.shared_name.ensures ∙ ap (λ o. closest_from (is_within o) c.args.name.now) c.owner_at.ensures
    ∙ ap (shared_by c.args.name.now) (sym (listed_get c.args.apex.now c.args.store.now c.args.place c.requires.place))

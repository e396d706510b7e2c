use Rattle.zone_contents.proofs.Distinct.{listed_in_order}
use Rattle.zone_contents.proofs.searches.are_in_order.Goals as goal

pub returns : goal.returns
returns g c = listed_in_order c.args.apex.now c.args.store.now c.requires

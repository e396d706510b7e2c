use Rattle.std.proofs.Common.{arith}
use Rattle.zone_contents.proofs.OwnPlaces.{begins_run}
use Rattle.zone_contents.proofs.searches.first_of_many.Goals as goal

pub returns : goal.returns
returns g c =
    let i = c.halve.invariant in
    begins_run c.args.store.now c.len-count.ensures.sorted c.args.place c.halve.from c.halve.first i.0 (omega (arith, c.halve-test.false)) i.1 c.requires i.2 i.3

use Rattle.std.proofs.Common.{arith}
use Rattle.zone_contents.proofs.OwnPlaces.{ends_run}
use Rattle.zone_contents.proofs.searches.past_many.Goals as goal

pub returns : goal.returns
returns g c =
    let i = c.halve.invariant in
    ends_run c.args.store.now c.len-past.ensures.sorted c.args.place c.halve.last c.halve.past i.0 i.1 (omega (arith, c.halve-test.false)) i.2 i.3 i.4

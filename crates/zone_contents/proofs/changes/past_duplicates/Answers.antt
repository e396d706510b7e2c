use Rattle.std.proofs.Common.{rules}
use Rattle.zone_contents.proofs.Distinct.{one_more_duplicate}
use Rattle.zone_contents.proofs.changes.past_duplicates.Goals as goal

pub loop-next-preserved : goal.loop-next-preserved
loop-next-preserved g c = one_more_duplicate c.args.store.now c.args.place c.loop-next.next c.loop-next.invariant (search rules)

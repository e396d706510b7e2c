use Rattle.std.proofs.Common.{arith}
use Rattle.zone_contents.proofs.CountedDuplicates.{counting_all, counting_more, counting_none}
use Rattle.zone_contents.proofs.stored.StoredZone.count_duplicates.Goals as goal

pub loop-place-init : goal.loop-place-init
loop-place-init g c = counting_none c.args.self.now

pub loop-place-preserved : goal.loop-place-preserved
loop-place-preserved g c =
    counting_more c.args.self.now c.count-place-end.ensures.sorted c.loop-place.place _ c.loop-place.duplicates c.count_at-duplicates.result
    (omega (arith, c.loop-place-test.true, c.count-place-end.ensures.count)) (omega arith) c.count_at-duplicates.ensures c.loop-place.invariant

pub returns : goal.returns
returns g c =
    counting_all c.args.self.now c.loop-place.place c.loop-place.duplicates (omega (arith, c.loop-place-test.false, c.count-place-end.ensures.count)) c.loop-place.invariant

use Rattle.std.proofs.Common.{arith}
use Rattle.zone_delegations.proofs.OwnerMarks.{set_none, set_more, set_all}
use Rattle.zone_delegations.proofs.marks.set_marks.Goals as goal

pub loop-place-init : goal.loop-place-init
loop-place-init g c = set_none c.args.marks.now.items c.args.first

pub loop-place-preserved : goal.loop-place-preserved
loop-place-preserved g c =
    set_more c.args.marks.now.items c.loop-place.marks.items c.args.first c.loop-place.place c.args.past (omega (arith, c.loop-place-test.true)) (omega (arith, c.loop-place.auto.place)) c.requires.within c.loop-place.invariant

pub returns : goal.returns
returns g c = set_all c.args.marks.now.items c.loop-place.marks.items c.args.first c.loop-place.place c.args.past (omega arith) (omega arith) c.loop-place.invariant

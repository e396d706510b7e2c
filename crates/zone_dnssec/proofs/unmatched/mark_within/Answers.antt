use Rattle.std.proofs.Common.{inl, inr, arith}
use Rattle.zone_dnssec.proofs.Marks.{more_within, nothing_within, past_within}
use Rattle.zone_dnssec.proofs.unmatched.mark_within.Goals as goal

pub loop-place-init : goal.loop-place-init
loop-place-init c = (nothing_within c.args.first c.args.first c.args.marks.now (omega arith), inr (omega arith))

pub loop-place-preserved : goal.loop-place-preserved
loop-place-preserved c = (
  more_within c.args.first c.loop-place.place c.args.marks.now c.loop-place.marks c.loop-place.auto.place (omega (arith, c.loop-place-test.true, c.requires)) c.loop-place.invariant.0,
  inl (omega (arith, c.loop-place-test.true)),
)

pub returns : goal.returns
returns c = past_within c.args.first c.args.past c.loop-place.place c.args.marks.now c.loop-place.marks c.loop-place-test.false c.loop-place.invariant.1 c.loop-place.invariant.0

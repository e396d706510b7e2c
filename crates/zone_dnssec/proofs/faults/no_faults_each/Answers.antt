use Rattle.std.proofs.Common.{length, ap, arith}
use Rattle.zone_dnssec.proofs.ChainTests.{nothing_pushed}
use Rattle.zone_dnssec.proofs.faults.no_faults_each.Goals as goal

pub loop-place-init : goal.loop-place-init
loop-place-init g c = record { size = ap length c.new-faults.ensures.items; each = λ i d lt. absurd (omega (arith, lt)) }

pub loop-place-preserved : goal.loop-place-preserved
loop-place-preserved g c =
    nothing_pushed c.loop-place._place c.loop-place.faults.items c.push.new.self.items c.no_faults.result c.loop-place.invariant c.no_faults.ensures c.in_ok-push.ensures.items

pub returns : goal.returns
returns g c = record {
  size = omega (arith, c.loop-place.invariant.size, c.loop-place.auto._place-end, c.loop-place-test.false);
  each = λ i d lt. c.loop-place.invariant.each i d (omega (arith, lt, c.loop-place-test.false));
}

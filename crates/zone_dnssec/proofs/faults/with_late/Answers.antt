use Rattle.std.proofs.Common.{◌++◌, ◌∷◌, [], length, ap, ◌∙◌, arith}
use Rattle.zone_dnssec.specs.ChainFaults.{late_faults}
use Rattle.zone_dnssec.specs.ZoneViews.{zone_with}
use Rattle.zone_dnssec.proofs.ChainTests.{faults_pushed}
use Rattle.zone_dnssec.proofs.faults.with_late.Goals as goal

pub loop-place-init : goal.loop-place-init
loop-place-init g c = record { size = ap length c.new-faults.ensures.items; each = λ i d lt. absurd (omega (arith, lt)) }

pub loop-place-preserved : goal.loop-place-preserved
loop-place-preserved g c =
    faults_pushed (late_faults (zone_with c.args.origin.now (g.Z.ZoneRecords.contents c.args.records.now)) c.args.chain.now) c.args.others.now c.loop-place.faults.items c.push.new.self.items c.loop-place.place
    c.faults_by_number-other.result c.late_faults_at-here.result c.loop-place.invariant c.faults_by_number-other.ensures c.late_faults_at-here.ensures
    (c.in_ok-push.ensures.items ∙ ap (λ x. c.loop-place.faults.items ++ x ∷ []) c.either.ensures)

pub returns : goal.returns
returns g c = record {
  size = omega (arith, c.loop-place.invariant.size, c.loop-place.auto.place-end, c.loop-place-test.false);
  each = λ i d lt. c.loop-place.invariant.each i d (omega (arith, lt, c.loop-place-test.false));
}

use Rattle.std.proofs.Common.{◌≡◌, ◌++◌, ◌∷◌, [], length, take, ap, subst, ◌∙◌, arith}
use Rattle.std.proofs.Math.Seq.{take-length}
use Rattle.zone_dnssec.specs.ChainFaults.{link_faults}
use Rattle.zone_dnssec.specs.UnmatchedLinks.{HaveMarks}
use Rattle.zone_dnssec.specs.ZoneViews.{zone_with}
use Rattle.zone_dnssec.proofs.ChainTests.{faults_pushed}
use Rattle.zone_dnssec.proofs.faults.with_links.Goals as goal

pub loop-place-init : goal.loop-place-init
loop-place-init g c = (record { size = ap length c.new-faults.ensures.items; each = λ i d lt. absurd (omega (arith, lt)) }, c.requires.marks)

pub loop-place-preserved : goal.loop-place-preserved
loop-place-preserved g c = (
  faults_pushed (link_faults (zone_with c.args.origin.now (g.Z.ZoneRecords.contents c.args.records.now)) c.args.chain.now) c.args.others.now c.loop-place.faults.items c.push.new.self.items c.loop-place.place
      c.faults_by_number-other.result c.faults_at-here.result c.loop-place.invariant.0 c.faults_by_number-other.ensures c.faults_at-here.ensures
      (c.in_ok-push.ensures.items ∙ ap (λ x. c.loop-place.faults.items ++ x ∷ []) c.either.ensures),
  c.mark_at.ensures,
)

pub returns-clause-faults : goal.returns-clause-faults
returns-clause-faults g c = record {
  size = omega (arith, c.loop-place.invariant.0.size, c.loop-place.auto.place-end, c.loop-place-test.false);
  each = λ i d lt. c.loop-place.invariant.0.each i d (omega (arith, lt, c.loop-place-test.false));
}

pub returns-clause-marks : goal.returns-clause-marks
returns-clause-marks g c =
    let records = g.Z.ZoneRecords.contents c.args.records.now in
    let ends : c.loop-place.place ≡ length records = omega (arith, c.loop-place.auto.place-end, c.loop-place-test.false, c.requires.others) in
    subst (λ l. HaveMarks (zone_with c.args.origin.now records) c.args.chain.now l c.loop-place.marks) (ap (λ n. take n records) ends ∙ take-length records) c.loop-place.invariant.1

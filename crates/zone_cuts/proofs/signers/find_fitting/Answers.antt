use Rattle.std.proofs.Common.{sym, ◌∙◌, arith}
use Rattle.zone_rules.proofs.Subjects.{one_more}
use Rattle.zone_cuts.specs.Signers.{is_fitting_ds}
use Rattle.zone_cuts.proofs.signers.find_fitting.Goals as goal

pub returns-then-is_fitting_at : goal.returns-then-is_fitting_at
returns-then-is_fitting_at g c = (
  omega (arith, c.loop-place.auto.place),
  omega (arith, c.loop-place-test.true),
  c.loop-place.invariant,
  sym c.is_fitting_at.ensures ∙ c.if-is_fitting_at.true,
)

pub loop-place-preserved : goal.loop-place-preserved
loop-place-preserved g c =
    one_more (is_fitting_ds c.args.name.now (g.C.ZoneRecords.contents c.args.child.now)) (g.P.ZoneRecords.contents c.args.parent.now) c.args.first c.loop-place.place
    (omega (arith, c.loop-place-test.true, c.requires)) c.loop-place.invariant (sym c.is_fitting_at.ensures ∙ c.if-is_fitting_at.false)

pub returns : goal.returns
returns g c = λ i d low lt. c.loop-place.invariant i d low (omega (arith, lt, c.loop-place-test.false))

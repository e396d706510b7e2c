use Rattle.std.proofs.Common.{sym, ◌∙◌, arith}
use Rattle.zone_rules.proofs.Subjects.{one_more}
use Rattle.zone_cuts.specs.OwnRecords.{is_sought}
use Rattle.zone_cuts.proofs.owned.find_sought.Goals as goal

pub returns-then-is_sought_at : goal.returns-then-is_sought_at
returns-then-is_sought_at g c = (
  omega (arith, c.loop-place.auto.place),
  omega (arith, c.loop-place-test.true),
  c.loop-place.invariant,
  sym c.is_sought_at.ensures ∙ c.if-is_sought_at.true,
)

pub loop-place-preserved : goal.loop-place-preserved
loop-place-preserved g c =
    one_more (is_sought c.args.sought.now) (g.Z.ZoneRecords.contents c.args.records.now) c.args.first c.loop-place.place
    (omega (arith, c.loop-place-test.true, c.requires)) c.loop-place.invariant (sym c.is_sought_at.ensures ∙ c.if-is_sought_at.false)

pub returns : goal.returns
returns g c = λ i d low lt. c.loop-place.invariant i d low (omega (arith, lt, c.loop-place-test.false))

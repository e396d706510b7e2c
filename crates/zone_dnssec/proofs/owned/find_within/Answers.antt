use Rattle.std.proofs.Common.{sym, ◌∙◌, arith}
use Rattle.zone_rules.proofs.Subjects.{one_more}
use Rattle.zone_dnssec.specs.OwnedRecords.{is_wanted_record}
use Rattle.zone_dnssec.proofs.owned.find_within.Goals as goal

pub returns-then-is_wanted_at : goal.returns-then-is_wanted_at
returns-then-is_wanted_at g c = (
  omega (arith, c.loop-place.auto.place),
  omega (arith, c.loop-place-test.true),
  c.loop-place.invariant,
  sym c.is_wanted_at.ensures ∙ c.if-is_wanted_at.true,
)

pub loop-place-preserved : goal.loop-place-preserved
loop-place-preserved g c =
    one_more (is_wanted_record c.args.wanted.now) (g.Z.ZoneRecords.contents c.args.records.now) c.args.first c.loop-place.place
    (omega (arith, c.loop-place-test.true, c.requires)) c.loop-place.invariant (sym c.is_wanted_at.ensures ∙ c.if-is_wanted_at.false)

pub returns : goal.returns
returns g c = λ i d low lt. c.loop-place.invariant i d low (omega (arith, lt, c.loop-place-test.false))

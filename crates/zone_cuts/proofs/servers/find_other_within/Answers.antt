use Rattle.std.proofs.Common.{sym, ◌∙◌, arith}
use Rattle.zone_rules.proofs.Subjects.{one_more}
use Rattle.zone_cuts.specs.Servers.{is_other_server}
use Rattle.zone_cuts.proofs.servers.find_other_within.Goals as goal

pub returns-then-is_other_server_at : goal.returns-then-is_other_server_at
returns-then-is_other_server_at g c = (
  omega (arith, c.loop-place.auto.place),
  omega (arith, c.loop-place-test.true),
  c.loop-place.invariant,
  sym c.is_other_server_at.ensures ∙ c.if-is_other_server_at.true,
)

pub loop-place-preserved : goal.loop-place-preserved
loop-place-preserved g c =
    one_more (is_other_server c.args.name.now (g.Z.ZoneRecords.contents c.args.others.now)) (g.Y.ZoneRecords.contents c.args.records.now) c.args.first c.loop-place.place
    (omega (arith, c.loop-place-test.true, c.requires)) c.loop-place.invariant (sym c.is_other_server_at.ensures ∙ c.if-is_other_server_at.false)

pub returns : goal.returns
returns g c = λ i d low lt. c.loop-place.invariant i d low (omega (arith, lt, c.loop-place-test.false))

use Rattle.std.proofs.Common.{sym, ◌∙◌, arith}
use Rattle.zone_rules.proofs.ServiceLoops.{first_of_type, is_of_type, none_of_type}
use Rattle.zone_rules.proofs.Subjects.{one_more}
use Rattle.zone_rules.proofs.services.first_service.Goals as goal

pub returns-then-is_of_type_at-clause-value : goal.returns-then-is_of_type_at-clause-value
returns-then-is_of_type_at-clause-value g c =
    first_of_type c.args.rtype c.args._name.now (g.Z.ZoneRecords.contents c.args.records.now) c.args.first c.args.past c.requires c.loop-place.place
    (omega (arith, c.loop-place.auto.place)) (omega (arith, c.loop-place-test.true)) c.loop-place.invariant (sym c.is_of_type_at.ensures ∙ c.if-is_of_type_at.true)

pub loop-place-preserved : goal.loop-place-preserved
loop-place-preserved g c =
    one_more (is_of_type c.args.rtype) (g.Z.ZoneRecords.contents c.args.records.now) c.args.first c.loop-place.place
    (omega (arith, c.loop-place-test.true, c.requires.bound)) c.loop-place.invariant (sym c.is_of_type_at.ensures ∙ c.if-is_of_type_at.false)

pub returns-clause-value : goal.returns-clause-value
returns-clause-value g c =
    none_of_type c.args.rtype c.args._name.now (g.Z.ZoneRecords.contents c.args.records.now) c.args.first c.args.past c.requires
    (λ i d low lt. c.loop-place.invariant i d low (omega (arith, lt, c.loop-place-test.false)))

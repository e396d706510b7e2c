use Rattle.std.proofs.Common.{ap, sym, ◌∙◌, arith}
use Rattle.std.specs.Prelude.{◌==◌}
use Rattle.zone_rules.proofs.OwnRecords.{type_at_owner, type_is}
use Rattle.zone_rules.proofs.present.is_of_type_before.Goals as goal

pub returns-then-have_one_owner : goal.returns-then-have_one_owner
returns-then-have_one_owner g c known =
    let records = g.Z.ZoneRecords.contents c.args.records.now in
    type_at_owner records c.loop-other.other c.args.place c.args.rtype (omega (arith, c.loop-other-test.true, c.requires)) (sym c.have_one_owner.ensures ∙ c.if-have_one_owner.true)
    (λ d. ap (λ t. t == c.args.rtype) (type_is records c.loop-other.other c.type_at.result (omega (arith, c.loop-other-test.true, c.requires)) c.type_at.ensures d) ∙ sym c.eq.ensures ∙ c.if-eq.true)

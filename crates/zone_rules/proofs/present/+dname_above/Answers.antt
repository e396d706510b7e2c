use Rattle.std.proofs.Common.{cond, Some, sym, ap, ◌∙◌}
use Rattle.zone_rules.specs.Present.{closest_dname}
use Rattle.zone_rules.proofs.Neighbours.{dname_some}
use Rattle.zone_rules.proofs.present.+dname_above.Goals as goal

pub returns-then-has_set : goal.returns-then-has_set
returns-then-has_set g t c =
    sym (dname_some (g.Z.ZoneRecords.contents c.args.records.now) c.args.refused.now c.args.name.now c.in-Some.above (sym c.owner_above.ensures ∙ c.in-Some.is)
    ∙ ap (λ b. cond b (Some c.in-Some.above) (closest_dname c.in-Some.above (g.Z.ZoneRecords.contents c.args.records.now) c.args.refused.now)) (sym c.has_set.ensures ∙ c.if-has_set.true))

pub returns : goal.returns
returns g t c =
    c.dname_above.ensures
    ∙ sym (dname_some (g.Z.ZoneRecords.contents c.args.records.now) c.args.refused.now c.args.name.now c.in-Some.above (sym c.owner_above.ensures ∙ c.in-Some.is)
    ∙ ap (λ b. cond b (Some c.in-Some.above) (closest_dname c.in-Some.above (g.Z.ZoneRecords.contents c.args.records.now) c.args.refused.now)) (sym c.has_set.ensures ∙ c.if-has_set.false))

use Rattle.std.proofs.Common.{sym, ◌∙◌}
use Rattle.zone_rules.specs.Subjects.{relates}
use Rattle.zone_rules.proofs.Subjects.{any_found}
use Rattle.zone_rules.proofs.by_set.is_any_related.Goals as goal

pub returns-then-is_related_at-clause-some : goal.returns-then-is_related_at-clause-some
returns-then-is_related_at-clause-some g c h =
    any_found (relates c.args.relation c.args.one.now) (g.Z.ZoneRecords.contents c.args.records.now) _ (sym c.is_related_at.ensures ∙ c.if-is_related_at.true)

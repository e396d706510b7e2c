use Rattle.std.proofs.Common.{sym, ◌∙◌}
use Rattle.zone_rules.specs.Subjects.{relates}
use Rattle.zone_rules.proofs.SetEnds.{set_lacks}
use Rattle.zone_rules.proofs.Subjects.{any_found}
use Rattle.zone_rules.proofs.by_set.is_end_related.Goals as goal

pub returns-then-is_related_at-clause-some : goal.returns-then-is_related_at-clause-some
returns-then-is_related_at-clause-some g c h =
    any_found (relates c.args.relation c.args.one.now) (g.Z.ZoneRecords.contents c.args.records.now) _ (sym c.is_related_at.ensures ∙ c.if-is_related_at.true)

pub returns-clause-some : goal.returns-clause-some
returns-clause-some g c h = any_found (relates c.args.relation c.args.one.now) (g.Z.ZoneRecords.contents c.args.records.now) _ (sym c.is_related_at-2.ensures ∙ h)

pub returns-clause-none : goal.returns-clause-none
returns-clause-none g c h =
    set_lacks c.args.one.now (g.Z.ZoneRecords.contents c.args.records.now) c.are_in_order.ensures c.args.from c.args.next c.requires.set c.args.relation c.requires.decided
    (sym c.is_related_at.ensures ∙ c.if-is_related_at.false) (sym c.is_related_at-2.ensures ∙ h)

use Rattle.std.proofs.Common.{sym, ◌∙◌}
use Rattle.zone_rules.proofs.CnameTargets.{lacks_none}
use Rattle.zone_rules.proofs.aliases.is_target_missing.Goals as goal

pub returns-else-is_name_within : goal.returns-else-is_name_within
returns-else-is_name_within g c =
    c.if-is_name_within.false ∙ lacks_none c.args.origin.now (g.Z.ZoneRecords.contents c.args.records.now) c.args.refused.now c.args.record.now c.in-Some.name
    (sym c.alias_target.ensures ∙ c.in-Some.is) (sym c.is_name_within.ensures ∙ c.if-is_name_within.false)

use Rattle.std.proofs.Common.{sym, ◌∙◌}
use Rattle.zone_rules.proofs.SetEnds.{no_soa}
use Rattle.zone_rules.proofs.by_set.is_soa_set_related.Goals as goal

pub returns-clause-none : goal.returns-clause-none
returns-clause-none g c h =
    no_soa c.args.one.now (g.Z.ZoneRecords.contents c.args.records.now) c.are_in_order.ensures c.args.from c.args.next c.requires (sym c.is_soa_at.ensures ∙ c.if-is_soa_at.false)

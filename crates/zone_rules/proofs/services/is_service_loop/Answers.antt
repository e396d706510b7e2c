use Rattle.std.proofs.Common.{sym, ◌∙◌}
use Rattle.zone_rules.proofs.ServiceLoops.{loop_is}
use Rattle.zone_rules.proofs.services.is_service_loop.Goals as goal

pub returns-in-Some : goal.returns-in-Some
returns-in-Some g c =
    loop_is (g.Z.ZoneRecords.contents c.args.records.now) c.args.record.now c.rtype.result c.view-goal.result c.in-Some.name c.do_aliases_end.result c.rtype.ensures c.view-goal.ensures
    (sym c.service_target.ensures ∙ c.in-Some.is) c.do_aliases_end.ensures

use Rattle.std.proofs.Common.{None, sym, ap, ◌∙◌}
use Rattle.std.specs.Ordering.{is_lt}
use Rattle.zone_rules.proofs.ServiceLoops.{after_place, ends_after}
use Rattle.zone_rules.proofs.services.+do_aliases_end.Goals as goal

pub returns-in-None : goal.returns-in-None
returns-in-None g t c =
    let records = g.Z.ZoneRecords.contents c.args.records.now in
    ends_after c.args.rtype records c.args.goal.now c.args.name.now c.args.count c.if-count-eq0.false (sym c.is_same.ensures ∙ c.if-is_same.false)
    (ap is_lt (sym c.order_of.ensures) ∙ sym c.is_lt.ensures ∙ c.if-not-is_lt.false) None
    (after_place c.args.rtype records c.args.goal.now c.args.name.now c.in-Some.place c.record-record.result c.record-record.ensures c.in-Some.ensures.value ∙ sym c.alias_mode_target.ensures ∙ c.in-None.is)

use Rattle.std.proofs.Common.{sym, ◌∙◌}
use Rattle.zone_rules.proofs.Neighbours.{first_true, first_false, dnames_some, dnames_none}
use Rattle.zone_rules.proofs.owners.+is_below_some_dname.Goals as goal

pub returns-then-has_type : goal.returns-then-has_type
returns-then-has_type g t c = first_true _ _ _ _ (dnames_some (g.Z.ZoneRecords.contents c.args.records.now) c.args.name.now c.in-Some.above (sym c.closest_before.ensures ∙ c.in-Some.is)) c.has_type.ensures c.if-has_type.true

pub returns-else-has_type : goal.returns-else-has_type
returns-else-has_type g t c = first_false _ _ _ _ _ (dnames_some (g.Z.ZoneRecords.contents c.args.records.now) c.args.name.now c.in-Some.above (sym c.closest_before.ensures ∙ c.in-Some.is)) c.has_type.ensures c.if-has_type.false c.is_below_some_dname.ensures

pub returns-in-None : goal.returns-in-None
returns-in-None g t c = sym (dnames_none (g.Z.ZoneRecords.contents c.args.records.now) c.args.name.now (sym c.closest_before.ensures ∙ c.in-None.is))

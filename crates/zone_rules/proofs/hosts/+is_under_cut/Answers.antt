use Rattle.std.proofs.Common.{sym, ◌∙◌}
use Rattle.zone_rules.proofs.Neighbours.{first_true, first_false, no_cut_above, zone_cuts_some, zone_cuts_none}
use Rattle.zone_rules.proofs.hosts.+is_under_cut.Goals as goal

pub returns-then-is_cut : goal.returns-then-is_cut
returns-then-is_cut g t c = first_true _ _ _ _ (zone_cuts_some (g.Z.ZoneRecords.contents c.args.records.now) c.args.name.now c.args.origin.now c.in-Some.above (sym c.closest_before.ensures ∙ c.in-Some.is)) c.is_cut.ensures c.if-is_cut.true

pub returns-else-is_cut : goal.returns-else-is_cut
returns-else-is_cut g t c = first_false _ _ _ _ _ (zone_cuts_some (g.Z.ZoneRecords.contents c.args.records.now) c.args.name.now c.args.origin.now c.in-Some.above (sym c.closest_before.ensures ∙ c.in-Some.is)) c.is_cut.ensures c.if-is_cut.false c.is_under_cut.ensures

pub returns-in-None : goal.returns-in-None
returns-in-None g t c = sym (zone_cuts_none (g.Z.ZoneRecords.contents c.args.records.now) c.args.name.now c.args.origin.now (sym c.closest_before.ensures ∙ c.in-None.is))

pub returns-then-not-is_parent_below : goal.returns-then-not-is_parent_below
returns-then-not-is_parent_below g t c = sym (no_cut_above (g.Z.ZoneRecords.contents c.args.records.now) c.args.origin.now c.args.name.now (sym c.is_parent_below.ensures ∙ c.if-not-is_parent_below.true))

use Rattle.std.proofs.Common.{sym, ◌∙◌}
use Rattle.zone_rules.proofs.Neighbours.{first_true, first_false, cuts_some, cuts_none, no_cut_in_above}
use Rattle.zone_rules.proofs.present.+is_below_cut.Goals as goal

pub returns-then-is_cut_name : goal.returns-then-is_cut_name
returns-then-is_cut_name g t c = first_true _ _ _ _ (cuts_some (g.Z.ZoneRecords.contents c.args.records.now) c.args.refused.now c.args.name.now c.args.origin.now c.in-Some.above (sym c.owner_above.ensures ∙ c.in-Some.is)) c.is_cut_name.ensures c.if-is_cut_name.true

pub returns-else-is_cut_name : goal.returns-else-is_cut_name
returns-else-is_cut_name g t c = first_false _ _ _ _ _ (cuts_some (g.Z.ZoneRecords.contents c.args.records.now) c.args.refused.now c.args.name.now c.args.origin.now c.in-Some.above (sym c.owner_above.ensures ∙ c.in-Some.is)) c.is_cut_name.ensures c.if-is_cut_name.false c.is_below_cut.ensures

pub returns-in-None : goal.returns-in-None
returns-in-None g t c = sym (cuts_none (g.Z.ZoneRecords.contents c.args.records.now) c.args.refused.now c.args.name.now c.args.origin.now (sym c.owner_above.ensures ∙ c.in-None.is))

pub returns-then-not-is_parent_below : goal.returns-then-not-is_parent_below
returns-then-not-is_parent_below g t c =
    sym (no_cut_in_above (g.Z.ZoneRecords.contents c.args.records.now) c.args.refused.now c.args.origin.now c.args.name.now (sym c.is_parent_below.ensures ∙ c.if-not-is_parent_below.true))

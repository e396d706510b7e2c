use Rattle.std.proofs.Common.{false, sym, ap, ◌∙◌}
use Rattle.std.specs.Option.{option_map_or}
use Rattle.zone_rules.specs.Above.{is_below}
use Rattle.zone_rules.proofs.Neighbours.{first_true, first_false, no_cut_above}
use Rattle.zone_delegations.proofs.Listed.{parent_cuts, parent_none}
use Rattle.zone_delegations.proofs.cuts.is_below_cut.Goals as goal

pub returns-else-is_name_below : goal.returns-else-is_name_below
returns-else-is_name_below g c =
    c.if-is_name_below.false ∙ sym (no_cut_above (g.Z.ZoneRecords.contents c.args.records.now) c.args.origin.now c.args.name.now
    (ap (λ o. option_map_or (λ above. is_below above c.args.origin.now) o false) (sym c.parent.ensures ∙ c.in-Some.is) ∙ sym c.is_name_below.ensures ∙ c.if-is_name_below.false))

pub returns-then-is_cut : goal.returns-then-is_cut
returns-then-is_cut g c =
    first_true _ _ _ _ (parent_cuts (g.Z.ZoneRecords.contents c.args.records.now) c.args.origin.now c.args.name.now c.in-Some.above (sym c.parent.ensures ∙ c.in-Some.is)) c.is_cut.ensures c.if-is_cut.true

pub returns-else-is_cut : goal.returns-else-is_cut
returns-else-is_cut g c =
    first_false _ _ _ _ _ (parent_cuts (g.Z.ZoneRecords.contents c.args.records.now) c.args.origin.now c.args.name.now c.in-Some.above (sym c.parent.ensures ∙ c.in-Some.is)) c.is_cut.ensures c.if-is_cut.false c.is_under_cut.ensures

pub returns-in-None : goal.returns-in-None
returns-in-None g c = sym (parent_none (g.Z.ZoneRecords.contents c.args.records.now) c.args.origin.now c.args.name.now (sym c.parent.ensures ∙ c.in-None.is))

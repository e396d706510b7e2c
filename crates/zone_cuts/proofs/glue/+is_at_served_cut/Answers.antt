use Rattle.std.proofs.Common.{sym, ap, ◌∙◌}
use Rattle.std.specs.Prelude.{not}
use Rattle.zone_cuts.proofs.Cuts.{cut_above, cut_here, cut_nowhere}
use Rattle.zone_cuts.proofs.glue.+is_at_served_cut.Goals as goal

pub returns-then-is_cut : goal.returns-then-is_cut
returns-then-is_cut g t c =
    ap not c.is_under_cut.ensures ∙ cut_here c.args.origin.now (g.Z.ZoneRecords.contents c.args.records.now) c.args.name.now (sym c.is_cut.ensures ∙ c.if-is_cut.true)

pub returns-in-Some : goal.returns-in-Some
returns-in-Some g t c =
    c.is_at_served_cut.ensures
    ∙ cut_above c.args.origin.now (g.Z.ZoneRecords.contents c.args.records.now) c.args.name.now c.in-Some.above (sym c.parent.ensures ∙ c.in-Some.is) (sym c.is_cut.ensures ∙ c.if-is_cut.false)

pub returns-in-None : goal.returns-in-None
returns-in-None g t c =
    cut_nowhere c.args.origin.now (g.Z.ZoneRecords.contents c.args.records.now) c.args.name.now (sym c.parent.ensures ∙ c.in-None.is) (sym c.is_cut.ensures ∙ c.if-is_cut.false)

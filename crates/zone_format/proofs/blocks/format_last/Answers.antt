use Rattle.zone_format.proofs.Seams.{formats_last}
use Rattle.zone_format.proofs.blocks.format_last.Goals as goal

pub returns-clause-well : goal.returns-clause-well
returns-clause-well g c = formats_last c.args.octets.now c.args.seam c.args.out.now.items _ _ c.in_ok-line_state.ensures.well _ c.in_ok-push_end.ensures

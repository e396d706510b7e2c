use Rattle.std.proofs.Common.{subst}
use Rattle.zone_format.specs.Blocks.{FormatsLast}
use Rattle.zone_format.specs.declared.line_state.FormatState.{FormatState}
use Rattle.zone_format.proofs.Seams.{formats_once}
use Rattle.zone_format.proofs.format.format.Goals as goal

pub returns-clause-well : goal.returns-clause-well
returns-clause-well g c =
    formats_once c.args.octets.now c.args.out.now.items _ (subst (λ (m : FormatState). FormatsLast c.args.octets.now m c.args.out.now.items c.format_last.new.out.items) c.first.ensures c.in_ok-format_last.ensures.well)

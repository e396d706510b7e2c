use Rattle.std.proofs.Common.{sym, subst}
use Rattle.zone_format.specs.Blocks.{FormatsEntries}
use Rattle.zone_format.specs.declared.line_state.FormatState.{FormatState}
use Rattle.zone_format.proofs.Seams.{formats_entries}
use Rattle.zone_format.proofs.blocks.format_entries.Goals as goal

pub returns-clause-well : goal.returns-clause-well
returns-clause-well g c =
    subst (λ (m : FormatState). FormatsEntries c.args.octets.now c.args.seam c.args.out.now.items c.write_all.new.out.items m) (sym c.seam.ensures)
    (formats_entries c.args.octets.now c.args.seam c.args.out.now.items c.write_all.new.out.items _ c.in_ok-line_state.ensures.well)

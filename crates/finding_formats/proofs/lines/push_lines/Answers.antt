use Rattle.std.specs.Prelude.{codes}
use Rattle.finding_formats.specs.Lines.{finding_line, further_line}
use Rattle.finding_formats.proofs.LineParts.{all_lines}
use Rattle.finding_formats.proofs.lines.push_lines.Goals as goal

pub returns : goal.returns
returns g c =
    let last = c.push_further_line-2 in
    let f = c.args.finding.now in
    all_lines last.result c.args.out.now.items (finding_line c.args.is_coloured f) c.push_first_line.new.out.items (further_line (codes "help: ") f.help) c.push_further_line.new.out.items
    (further_line (codes "note: ") f.note) last.new.out.items c.in_ok-push_first_line.ensures c.in_ok-push_further_line.ensures last.ensures

use Rattle.finding_formats.proofs.OneLine.{findings_are_lines}
use Rattle.finding_formats.proofs.laws.findings_are_lines.Goals as goal

pub returns : goal.returns
returns c = findings_are_lines

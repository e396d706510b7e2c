use Rattle.finding_formats.proofs.OneLine.{object_is_line}
use Rattle.finding_formats.proofs.laws.objects_are_lines.Goals as goal

pub returns : goal.returns
returns c = object_is_line

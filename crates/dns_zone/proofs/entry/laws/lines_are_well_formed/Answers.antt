use Rattle.dns_zone.proofs.EntryWords.{line_formed}
use Rattle.dns_zone.proofs.entry.laws.lines_are_well_formed.Goals as goal

pub returns : goal.returns
returns c = line_formed

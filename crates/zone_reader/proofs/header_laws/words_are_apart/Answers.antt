use Rattle.zone_reader.proofs.WordLemmas.{apart}
use Rattle.zone_reader.proofs.header_laws.words_are_apart.Goals as goal

pub returns : goal.returns
returns c = apart

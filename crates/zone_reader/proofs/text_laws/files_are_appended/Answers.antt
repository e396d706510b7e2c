use Rattle.zone_reader.proofs.Included.{files_are_appended}
use Rattle.zone_reader.proofs.text_laws.files_are_appended.Goals as goal

pub returns : goal.returns
returns c = files_are_appended

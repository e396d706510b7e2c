use Rattle.zone_reader.proofs.TextPieces.{pieces_are_read_on, pieces_stand_alone}
use Rattle.zone_reader.proofs.text_laws.texts_are_read_in_pieces.Goals as goal

pub returns-clause-on : goal.returns-clause-on
returns-clause-on c = pieces_are_read_on

pub returns-clause-alone : goal.returns-clause-alone
returns-clause-alone c = pieces_stand_alone

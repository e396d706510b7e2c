use Rattle.rdata_tokens.proofs.Pieces.{reads_on, reads_goes_on}
use Rattle.rdata_tokens.proofs.digit_laws.pieces_are_read.Goals as goal

pub returns : goal.returns
returns c = record { next = reads_on; goes_on = reads_goes_on }

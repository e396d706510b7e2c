use Rattle.rdata_tokens.proofs.Pieces.{reads_whole}
use Rattle.rdata_tokens.proofs.Together.{only_room}
use Rattle.rdata_tokens.proofs.digit_laws.a_cut_text_is_read.Goals as goal

pub returns : goal.returns
returns c = record { read = reads_whole; refused = only_room }

use Rattle.rdata_tokens.proofs.Spelling.{spells_once}
use Rattle.rdata_tokens.proofs.digit_laws.a_text_spells_once.Goals as goal

pub returns : goal.returns
returns c = spells_once

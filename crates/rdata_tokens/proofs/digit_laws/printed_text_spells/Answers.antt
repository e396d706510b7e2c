use Rattle.rdata_tokens.proofs.Spelling.{printed_spells}
use Rattle.rdata_tokens.proofs.digit_laws.printed_text_spells.Goals as goal

pub returns : goal.returns
returns c = printed_spells

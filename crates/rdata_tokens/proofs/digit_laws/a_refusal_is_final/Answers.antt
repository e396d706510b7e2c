use Rattle.rdata_tokens.proofs.Together.{final}
use Rattle.rdata_tokens.proofs.digit_laws.a_refusal_is_final.Goals as goal

pub returns : goal.returns
returns c = final

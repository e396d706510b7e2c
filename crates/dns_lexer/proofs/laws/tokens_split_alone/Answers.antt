use Rattle.dns_lexer.proofs.Whole.{itself_token, token_itself}
use Rattle.dns_lexer.proofs.laws.tokens_split_alone.Goals as goal

pub returns : goal.returns
returns c = λ text. (itself_token text, token_itself text)

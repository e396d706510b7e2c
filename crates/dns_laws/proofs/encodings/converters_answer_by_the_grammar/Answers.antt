use Rattle.dns_laws.proofs.GrammarOnce.{by_converter, by_grammar}
use Rattle.dns_laws.proofs.encodings.converters_answer_by_the_grammar.Goals as goal

pub returns : goal.returns
returns c = λ b known room token r. (by_converter b known (λ why. why) (λ s. s) room token r, by_grammar b known (λ why. why) (λ s. s) room token r)

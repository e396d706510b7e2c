use Rattle.std.proofs.Common.{arith}
use Rattle.rdata_tokens.proofs.LabelParts.{label_plain}
use Rattle.rdata_tokens.proofs.names.plain_label_count.Goals as goal

pub returns-clause-plain : goal.returns-clause-plain
returns-clause-plain c = λ k less. label_plain _ (c.run_end.ensures.each k (omega arith) less)

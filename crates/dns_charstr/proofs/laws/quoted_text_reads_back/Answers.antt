use Rattle.std.proofs.lemmas.List.{get_or_default}
use Rattle.dns_charstr.proofs.ReadBack.{quotes, between_quotes}
use Rattle.dns_charstr.proofs.laws.quoted_text_reads_back.Goals as goal

pub returns-clause-quotes : goal.returns-clause-quotes
returns-clause-quotes c = (_, quotes c.args.octets.now)

pub returns-clause-between : goal.returns-clause-between
returns-clause-between c = λ between is. between_quotes c.args.octets.now between (λ k d h. rw (get_or_default c.args.octets.now k d 0 h) (c.type_inv.octets k).fits) is

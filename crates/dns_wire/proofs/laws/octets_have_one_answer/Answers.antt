use Rattle.dns_wire.proofs.OneAnswer.{name_same, relative_same}
use Rattle.dns_wire.proofs.laws.octets_have_one_answer.Goals as goal

pub returns-clause-absolute : goal.returns-clause-absolute
returns-clause-absolute c = name_same

pub returns-clause-relative : goal.returns-clause-relative
returns-clause-relative c = relative_same

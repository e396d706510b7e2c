use Rattle.rdata_values.proofs.SaltLaws.{salts_are_kind}
use Rattle.rdata_values.proofs.salt.salts_are_read_back.Goals as goal

pub returns : goal.returns
returns c = salts_are_kind

use Rattle.rdata_values.proofs.SchemeLaws.{schemes_are_kind}
use Rattle.rdata_values.proofs.schemes.schemes_are_read_back.Goals as goal

pub returns : goal.returns
returns c = schemes_are_kind

use Rattle.rdata_values.proofs.EuiLaws.{euis_are_kind}
use Rattle.rdata_values.proofs.eui.euis_are_read_back.Goals as goal

pub returns : goal.returns
returns c = euis_are_kind

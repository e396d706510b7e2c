use Rattle.rdata_values.proofs.CodeLaws.{classes_are_kind}
use Rattle.rdata_values.proofs.classes.classes_are_read_back.Goals as goal

pub returns : goal.returns
returns c = classes_are_kind

use Rattle.rdata_values.proofs.CodeLaws.{algorithms_are_kind, certificates_are_kind}
use Rattle.rdata_values.proofs.algorithms.algorithms_are_read_back.Goals as goal

pub returns : goal.returns
returns c = record { algorithms = algorithms_are_kind; certificates = certificates_are_kind }

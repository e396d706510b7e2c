use Rattle.rdata_values.proofs.CodeLaws.{types_are_kind, portable_types_are_kind, sig_types_are_kind}
use Rattle.rdata_values.proofs.types.types_are_read_back.Goals as goal

pub returns : goal.returns
returns c = record { named = types_are_kind; portable = portable_types_are_kind; signed = sig_types_are_kind }

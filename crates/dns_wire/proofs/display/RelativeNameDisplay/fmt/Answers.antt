use Rattle.std.proofs.Common.{ap}
use Rattle.std.specs.Prelude.{encode_utf8_all}
use Rattle.std.proofs.Output.{has_written_of_eq}
use Rattle.dns_wire.proofs.Walks.{relative_text}
use Rattle.dns_wire.proofs.display.RelativeNameDisplay.fmt.Goals as goal

pub returns-clause-writes : goal.returns-clause-writes
returns-clause-writes g c = λ plain ok.
    has_written_of_eq _ _ _ _ _ (ap encode_utf8_all (relative_text _ c.as_slice-relative.ensures.relative)) (c.write_name.ensures plain ok)

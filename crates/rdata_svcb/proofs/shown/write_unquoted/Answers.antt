use Rattle.std.proofs.Output.{has_written_of_eq}
use Rattle.rdata_svcb.proofs.ShownItems.{unquoted_bytes}
use Rattle.rdata_svcb.proofs.shown.write_unquoted.Goals as goal

pub returns : goal.returns
returns g c = λ plain ok. has_written_of_eq _ _ _ _ _ (unquoted_bytes _ _ c.as_slice-octets.ensures.value c.as_slice-octets.ensures.bytes) (c.write_octets.ensures plain ok)

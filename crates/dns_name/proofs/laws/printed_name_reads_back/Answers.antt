use Rattle.dns_name.proofs.Printing.{printed_reads}
use Rattle.dns_name.proofs.laws.printed_name_reads_back.Goals as goal

pub returns : goal.returns
returns g c = printed_reads c.args.name.now c.as_slice-slice.ensures.holds c.as_slice-octets.ensures.bytes

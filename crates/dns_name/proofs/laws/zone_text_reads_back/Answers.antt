use Rattle.dns_name.proofs.Printing.{zone_reads}
use Rattle.dns_name.proofs.laws.zone_text_reads_back.Goals as goal

pub returns : goal.returns
returns g c = zone_reads c.args.name.now c.as_slice-slice.ensures.holds c.as_slice-octets.ensures.bytes

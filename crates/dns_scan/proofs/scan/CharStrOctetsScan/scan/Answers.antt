use Rattle.dns_scan.proofs.Reading.{octets_first}
use Rattle.dns_scan.proofs.scan.CharStrOctetsScan.scan.Goals as goal

pub returns-clause-reads : goal.returns-clause-reads
returns-clause-reads g c = octets_first g.S.Scanner.next_token g.S.Error.ScannerError.cause _ _ c.scan_charstr.result _ c.scan_charstr.ensures.scans

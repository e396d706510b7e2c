use Rattle.dns_scan.proofs.Reading.{number_first}
use Rattle.dns_scan.proofs.scan.U128Scan.scan.Goals as goal

pub returns-clause-reads : goal.returns-clause-reads
returns-clause-reads g c = number_first g.S.Scanner.next_token g.S.Error.ScannerError.cause _ _ c.scan_number.result _ c.scan_number.ensures.scans

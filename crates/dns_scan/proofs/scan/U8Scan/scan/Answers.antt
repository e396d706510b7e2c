use Rattle.std.proofs.Common.{Ok}
use Rattle.dns_scan.proofs.Reading.{number_first, number_refused}
use Rattle.dns_scan.proofs.scan.U8Scan.scan.Goals as goal

pub returns-clause-reads : goal.returns-clause-reads
returns-clause-reads g c = number_first g.S.Scanner.next_token g.S.Error.ScannerError.cause _ _ (Ok c.in_ok-scan_number.field-0) _ c.in_ok-scan_number.ensures.scans

pub returns-in_err-scan_number-clause-reads : goal.returns-in_err-scan_number-clause-reads
returns-in_err-scan_number-clause-reads g c =
    number_refused g.S.Scanner.next_token g.S.Error.ScannerError.cause _ _ _ c.from_residual.result _ c.from_residual.ensures.1 c.in_err-scan_number.ensures.scans

use Rattle.std.proofs.Common.{Ok, subst, sym}
use Rattle.dns_scan.specs.Numbers.{ScannedNumber, greatest}
use Rattle.dns_scan.specs.Tokens.{ScansToken}
use Rattle.dns_scan.proofs.Reading.{number_first, number_refused}
use Rattle.dns_scan.proofs.scan.TtlScan.scan.Goals as goal

pub returns-clause-reads : goal.returns-clause-reads
returns-clause-reads g c =
    number_first g.S.Scanner.next_token g.S.Error.ScannerError.cause (greatest 32) c.args.scanner.now (Ok c.from_secs.result) c.scan_number.new.scanner
    (subst (λ v. ScansToken g.S.Scanner.next_token g.S.Error.ScannerError.cause (ScannedNumber g.S.Error.ScannerError.cause (greatest 32)) c.args.scanner.now (Ok v) c.scan_number.new.scanner)
    (sym c.from_secs.ensures) c.in_ok-scan_number.ensures.scans)

pub returns-in_err-scan_number-clause-reads : goal.returns-in_err-scan_number-clause-reads
returns-in_err-scan_number-clause-reads g c =
    number_refused g.S.Scanner.next_token g.S.Error.ScannerError.cause _ _ _ c.from_residual.result _ c.from_residual.ensures.1 c.in_err-scan_number.ensures.scans

use Rattle.std.proofs.Common.{refl}
use Rattle.dns_scan.proofs.Reading.{reads_first}
use Rattle.dns_scan.specs.Reads.{NameReads}
use Rattle.dns_scan.proofs.scan.NameScan.scan.Goals as goal

pub returns-clause-reads : goal.returns-clause-reads
returns-clause-reads g c =
    reads_first g.S.Scanner.next_token g.S.Error.ScannerError.cause g.S.Scanner.reads_name (NameReads g.S.Error.ScannerError.cause g.S.Scanner.reads_name) (λ t r h. (r, h, refl))
    _ c.scan_name.result _ c.scan_name.ensures.scans

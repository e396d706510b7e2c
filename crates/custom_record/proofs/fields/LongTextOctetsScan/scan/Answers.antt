use Rattle.dns_scan.proofs.Reading.{octets_first}
use Rattle.custom_record.proofs.LongTexts.{scanned_list, refused_list}
use Rattle.custom_record.proofs.fields.LongTextOctetsScan.scan.Goals as goal

pub returns-in-Ok-clause-reads : goal.returns-in-Ok-clause-reads
returns-in-Ok-clause-reads g c =
    octets_first g.S.Scanner.next_token g.S.Error.ScannerError.cause _ _ _ _
    (scanned_list g.S.Scanner.next_token g.S.Error.ScannerError.cause g.S.OctetsBuilder.OctetsBuilder.room g.S.Octets.AsOctets.octets _ c.in-Ok.octets _ (rw c.in-Ok.is at c.scan_octets.ensures.scans))

pub returns-in-Err-clause-reads : goal.returns-in-Err-clause-reads
returns-in-Err-clause-reads g c =
    octets_first g.S.Scanner.next_token g.S.Error.ScannerError.cause _ _ _ _
    (refused_list g.S.Scanner.next_token g.S.Error.ScannerError.cause g.S.OctetsBuilder.OctetsBuilder.room g.S.Octets.AsOctets.octets _ c.in-Err.error _ (rw c.in-Err.is at c.scan_octets.ensures.scans))

use Rattle.std.proofs.Common.{refl}
use Rattle.dns_scan.specs.Entries.{Converts, ConvertToken}
use Rattle.dns_scan.proofs.Whole.{of_first}
use Rattle.dns_zone.proofs.EntryConverting.{converted_value, converted_refusal}
use Rattle.dnstext_lib.proofs.Printing.{octets_line}
use Rattle.dnstext_lib.proofs.program.print_octets.Goals as goal

pub returns-in-Err-clause-line : goal.returns-in-Err-clause-line
returns-in-Err-clause-line g c = λ token others stands.
    (converted_refusal g.S.Error.ScannerError.cause _ _ _ _ _ _ (of_first g.S.Scanner.next_token g.S.Error.ScannerError.cause _ _ _ _ token others stands c.in-Err.ensures.scans).0, refl)

pub returns-in-Err-clause-rest : goal.returns-in-Err-clause-rest
returns-in-Err-clause-rest g c = λ token others stands. (of_first g.S.Scanner.next_token g.S.Error.ScannerError.cause _ _ _ _ token others stands c.convert_token.ensures.scans).1

pub returns-clause-line : goal.returns-clause-line
returns-clause-line g c = λ token others stands.
    octets_line _
    (Converts g.S.Error.ScannerError.cause g.S.OctetsBuilder.OctetsBuilder.room g.C.ConvertSymbols.tail (λ s. s)
    (λ p a q. ConvertToken g.S.Error.ScannerError.cause g.S.OctetsBuilder.OctetsBuilder.room g.C.ConvertSymbols.takes p token a q) c.args.convert)
    _ _ _ c.print_line.result
    (converted_value g.S.Error.ScannerError.cause _ _ _ _ _ _ (of_first g.S.Scanner.next_token g.S.Error.ScannerError.cause _ _ _ _ token others stands c.in-Ok.ensures.scans).0)
    (rw c.as_slice.ensures.value at (rw c.encode_display.ensures at c.print_line.ensures))

pub returns-clause-rest : goal.returns-clause-rest
returns-clause-rest g c = λ token others stands. (of_first g.S.Scanner.next_token g.S.Error.ScannerError.cause _ _ _ _ token others stands c.convert_token.ensures.scans).1

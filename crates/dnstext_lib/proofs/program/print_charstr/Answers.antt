use Rattle.std.proofs.Common.{refl}
use Rattle.dns_scan.specs.Octets.{unquoted_token}
use Rattle.dns_scan.proofs.Whole.{of_first}
use Rattle.dnstext_lib.specs.Program.{Stops, StringPrints, StringRefused, StringAllocates}
use Rattle.dnstext_lib.proofs.Printing.{charstr_prints, charstr_stops, line_by}
use Rattle.dnstext_lib.proofs.program.print_charstr.Goals as goal

pub returns-in-Err-clause-line : goal.returns-in-Err-clause-line
returns-in-Err-clause-line g c = λ token others stands.
    (charstr_stops g.S.Error.ScannerError.cause _ token c.in-Err.error (of_first g.S.Scanner.next_token g.S.Error.ScannerError.cause _ _ _ _ token others stands c.in-Err.ensures.scans).0, refl)

pub returns-in-Err-clause-rest : goal.returns-in-Err-clause-rest
returns-in-Err-clause-rest g c = λ token others stands. (of_first g.S.Scanner.next_token g.S.Error.ScannerError.cause _ _ _ _ token others stands c.scan_charstr.ensures.scans).1

pub returns-clause-line : goal.returns-clause-line
returns-clause-line g c = λ token others stands.
    line_by g.S.Error.ScannerError.cause _ StringPrints (Stops StringRefused StringAllocates) token (unquoted_token c.in-Ok.string) _ _ c.print_line.result
    (charstr_prints g.S.Error.ScannerError.cause _ token c.in-Ok.string (of_first g.S.Scanner.next_token g.S.Error.ScannerError.cause _ _ _ _ token others stands c.in-Ok.ensures.scans).0)
    (rw c.display_unquoted.ensures at c.print_line.ensures)

pub returns-clause-rest : goal.returns-clause-rest
returns-clause-rest g c = λ token others stands. (of_first g.S.Scanner.next_token g.S.Error.ScannerError.cause _ _ _ _ token others stands c.scan_charstr.ensures.scans).1

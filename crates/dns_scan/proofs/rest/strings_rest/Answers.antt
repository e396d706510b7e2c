use Rattle.dns_scan.proofs.StringsLeft.{left_only, left_whole, left_leaves}
use Rattle.dns_scan.proofs.rest.strings_rest.Goals as goal

pub returns-clause-only : goal.returns-clause-only
returns-clause-only g c = λ tokens stands.
    let read = c.scan_rest.ensures.reads tokens stands in
    left_only _ g.S.Error.ScannerError.cause (λ v. v.items) tokens read.0 c.scan_rest.result read.1

pub returns-clause-whole : goal.returns-clause-whole
returns-clause-whole g c = λ tokens strings stands.
    let read = c.scan_rest.ensures.reads tokens stands in
    left_whole _ g.S.Error.ScannerError.cause (λ v. v.items) tokens read.0 c.scan_rest.result read.1 strings

pub returns-clause-rest : goal.returns-clause-rest
returns-clause-rest g c = λ tokens stands.
    let read = c.scan_rest.ensures.reads tokens stands in
    left_leaves _ g.S.Error.ScannerError.cause (λ v. v.items) tokens read.0 g.S.Scanner.next_token c.scan_rest.new.scanner c.scan_rest.result read.1 read.2

use Rattle.dns_scan.proofs.OneEntry.{strings_whole, strings_printed}
use Rattle.dns_scan.proofs.StringRuns.{strings_answer, strings_leave}
use Rattle.dns_scan.proofs.laws.string_entries_are_scanned_back.Goals as goal

pub returns-clause-answer : goal.returns-clause-answer
returns-clause-answer g c = strings_answer _ _ _ _ _ _ _ c.scan_charstr_entry.ensures.scans

pub returns-clause-whole : goal.returns-clause-whole
returns-clause-whole g c = λ tokens strings stands read short.
    let answer = returns-clause-answer g c tokens stands in
    strings_whole _ g.S.Error.ScannerError.cause g.S.Octets.AsOctets.octets tokens strings c.scan_charstr_entry.result answer.0 read short answer.1

pub returns-clause-printed : goal.returns-clause-printed
returns-clause-printed g c = λ tokens strings stands printed bytes short.
    let answer = returns-clause-answer g c tokens stands in
    strings_printed _ g.S.Error.ScannerError.cause g.S.Octets.AsOctets.octets tokens strings c.scan_charstr_entry.result answer.0 printed bytes short answer.1

pub returns-clause-rest : goal.returns-clause-rest
returns-clause-rest g c = strings_leave _ _ _ _ _ _ _ c.scan_charstr_entry.ensures.scans

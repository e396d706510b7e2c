use Rattle.dns_scan.proofs.OneReading.{both_once, each_once, kinds_once, name_once, number_once, string_once}
use Rattle.dns_scan.proofs.laws.scans_have_one_answer.Goals as goal

pub returns-clause-number : goal.returns-clause-number
returns-clause-number g c = number_once

pub returns-clause-string : goal.returns-clause-string
returns-clause-string g c = string_once

pub returns-clause-name : goal.returns-clause-name
returns-clause-name g c = name_once g.S.Error.ScannerError.cause g.S.Scanner.reads_name

pub returns-clause-each : goal.returns-clause-each
returns-clause-each g c = each_once g.A.Scan.scan_reads

pub returns-clause-kinds : goal.returns-clause-kinds
returns-clause-kinds g c = kinds_once g.A.Scan.scan_reads

pub returns-clause-both : goal.returns-clause-both
returns-clause-both g c = both_once g.A.Scan.scan_reads g.B.Scan.scan_reads

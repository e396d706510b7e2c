use Rattle.dns_scan.proofs.OneReading.{name_once}
use Rattle.dns_iter.proofs.NamesOnce.{tokens_once}
use Rattle.dns_iter.proofs.room.names_have_one_answer.Goals as goal

pub returns-clause-token : goal.returns-clause-token
returns-clause-token g c = tokens_once g.E.ScannerError.cause g.row.N _

pub returns-clause-first : goal.returns-clause-first
returns-clause-first g c = name_once g.E.ScannerError.cause _ (tokens_once g.E.ScannerError.cause g.row.N _)

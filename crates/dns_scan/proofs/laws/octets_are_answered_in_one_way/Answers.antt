use Rattle.dns_scan.proofs.OneAnswer.{one_answer, one_reading}
use Rattle.dns_scan.proofs.OneEntry.{one_entry}
use Rattle.dns_scan.proofs.laws.octets_are_answered_in_one_way.Goals as goal

pub returns : goal.returns
returns c = record { symbols = one_answer; token = one_reading; entry = one_entry }

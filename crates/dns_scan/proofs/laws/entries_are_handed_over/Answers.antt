use Rattle.dns_scan.proofs.HandedOver.{handed_whole}
use Rattle.dns_scan.proofs.InTurn.{in_turn, leaves}
use Rattle.dns_scan.proofs.laws.entries_are_handed_over.Given as given
use Rattle.dns_scan.proofs.laws.entries_are_handed_over.Goals as goal

pub returns-clause-asks : goal.returns-clause-asks
returns-clause-asks g c = in_turn g.S.Scanner.next_token _ _ _ _ _ _ c.scan_entry_symbols.ensures.scans

pub returns-clause-rest : goal.returns-clause-rest
returns-clause-rest g c = leaves _ g.S.Scanner.next_token _ _ _ _ _ c.scan_entry_symbols.ensures.scans c.scan_entry_symbols.result (λ is. is)

pub returns-clause-whole : goal.returns-clause-whole
returns-clause-whole g c = handed_whole g.S.Error.ScannerError.cause (λ f x r h. given.F-step g f x r h) g.S.Scanner.next_token _ _ _ _ _ c.scan_entry_symbols.ensures.scans

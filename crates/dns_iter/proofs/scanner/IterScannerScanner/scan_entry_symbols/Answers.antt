use Rattle.std.proofs.Common.{refl}
use Rattle.dns_iter.proofs.Taking.{entry_from}
use Rattle.dns_iter.proofs.scanner.IterScannerScanner.scan_entry_symbols.Goals as goal

pub returns-clause-scans : goal.returns-clause-scans
returns-clause-scans g c = entry_from _ _ _ (λ p. p.0) (λ f x r h k. k) _ _ _ refl _ _ _ c.each_token.ensures.takes

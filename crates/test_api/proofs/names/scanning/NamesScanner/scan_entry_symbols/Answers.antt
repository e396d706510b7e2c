use Rattle.std.proofs.Common.{refl, inr}
use Rattle.test_api.proofs.CutToken.{cut_asks, cut_entry}
use Rattle.test_api.proofs.names.scanning.NamesScanner.scan_entry_symbols.Goals as goal

pub returns-clause-scans : goal.returns-clause-scans
returns-clause-scans g c = cut_entry _ _ _ _ c.cut.result (inr (refl, cut_asks g.E.ScannerError.cause c.cut.result c.cut.ensures _ _))

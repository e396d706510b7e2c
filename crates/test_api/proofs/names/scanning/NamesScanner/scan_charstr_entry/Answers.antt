use Rattle.std.proofs.Common.{refl, Err}
use Rattle.test_api.proofs.CutToken.{cut_asks, cut_entry}
use Rattle.test_api.proofs.names.scanning.NamesScanner.scan_charstr_entry.Goals as goal

pub returns-clause-scans : goal.returns-clause-scans
returns-clause-scans g c = record {
  answer = Err c.cut.result;
  built = _;
  taken = cut_entry _ _ _ _ c.cut.result
      (record { answer = Err c.cut.result; built = _; asks = cut_asks g.E.ScannerError.cause c.cut.result c.cut.ensures _ _; gives = (refl, refl) });
  gives = refl;
}

use Rattle.std.proofs.Common.{refl, Err}
use Rattle.test_api.proofs.CutToken.{cut_asks, cut_entry}
use Rattle.test_api.proofs.names.scanning.NamesScanner.convert_entry.Goals as goal

pub returns-clause-scans : goal.returns-clause-scans
returns-clause-scans g c = record {
  converts = record {
    answer = Err c.cut.result;
    state = _;
    ran = cut_entry _ _ _ _ c.cut.result (cut_asks g.E.ScannerError.cause c.cut.result c.cut.ensures _ _);
    gives = refl;
  };
}

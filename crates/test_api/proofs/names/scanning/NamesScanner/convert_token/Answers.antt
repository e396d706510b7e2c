use Rattle.std.proofs.Common.{Some, refl, Err}
use Rattle.test_api.proofs.CutToken.{cut_token, cut_asks}
use Rattle.test_api.proofs.names.scanning.NamesScanner.convert_token.Goals as goal

pub returns-clause-scans : goal.returns-clause-scans
returns-clause-scans g c = record {
  token = Some cut_token;
  taken = refl;
  answer = record { answer = Err c.cut.result; state = _; ran = cut_asks g.E.ScannerError.cause c.cut.result c.cut.ensures _ _; gives = refl };
}

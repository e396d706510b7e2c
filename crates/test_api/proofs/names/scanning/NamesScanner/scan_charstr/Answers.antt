use Rattle.std.proofs.Common.{Some, refl}
use Rattle.test_api.proofs.CutToken.{cut_token, cut_builds}
use Rattle.test_api.proofs.names.scanning.NamesScanner.scan_charstr.Goals as goal

pub returns-clause-scans : goal.returns-clause-scans
returns-clause-scans g c = record { token = Some cut_token; taken = refl; answer = cut_builds g.E.ScannerError.cause c.cut.result c.cut.ensures _ _ }

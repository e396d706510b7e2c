use Rattle.std.proofs.Common.{Some, refl}
use Rattle.test_api.proofs.CutToken.{cut_token}
use Rattle.test_api.proofs.names.scanning.NamesScanner.scan_opt_unknown_marker.Goals as goal

pub returns-clause-scans : goal.returns-clause-scans
returns-clause-scans g c = (Some cut_token, record { same = λ o u h. h; shown = (c.args.self.now, refl); only = λ p u h. h }, λ e. cc)

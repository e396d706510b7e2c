use Rattle.std.proofs.Common.{Some, refl}
use Rattle.test_api.proofs.CutToken.{cut_token}
use Rattle.test_api.proofs.names.scanning.NamesScanner.continues.Goals as goal

pub returns-clause-peeks : goal.returns-clause-peeks
returns-clause-peeks g c = (Some cut_token, record { same = λ o u h. h; shown = (c.args.self.now, refl); only = λ p u h. h }, refl)

use Rattle.std.proofs.Common.{ap}
use Rattle.dns_zone.specs.Layout.{layout, simple_piece}
use Rattle.dns_laws.specs.Entries.{document_of}
use Rattle.dns_laws.proofs.Normal.{normal_formed, normal_splits, normal_same}
use Rattle.dns_laws.proofs.layouts.normal_form.Goals as goal

pub returns-clause-formed : goal.returns-clause-formed
returns-clause-formed c = normal_formed

pub returns-clause-alike : goal.returns-clause-alike
returns-clause-alike c = normal_splits

pub returns-clause-same : goal.returns-clause-same
returns-clause-same c = λ text other e f s r. (λ same. ap (λ x. layout simple_piece (document_of x)) same, normal_same text other e f s r)

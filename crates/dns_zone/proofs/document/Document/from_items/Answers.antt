use Rattle.std.proofs.Common.{[]}
use Rattle.dns_zone.proofs.Scanned.{fault_refuses}
use Rattle.dns_zone.proofs.document.Document.from_items.Goals as goal

pub returns-in-Some-clause-accepts : goal.returns-in-Some-clause-accepts
returns-in-Some-clause-accepts g c = (λ e. cc, λ p. absurd (fault_refuses [] _ _ c.in-Some.ensures.fault (rw c.deref.ensures.value p)))

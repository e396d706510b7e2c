use Rattle.dns_zone.proofs.EntryDocuments.{empty_refuses}
use Rattle.dns_zone.proofs.entry.EntryLine.new.Goals as goal

pub returns-in-Some-clause-accepts : goal.returns-in-Some-clause-accepts
returns-in-Some-clause-accepts g c = (λ e. cc, λ line. absurd (empty_refuses _ _ c.in-Some.ensures.some (rw c.deref.ensures.value line)))

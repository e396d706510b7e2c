use Rattle.std.proofs.Common.{◌≡◌, length, subst}
use Rattle.zone_contents.specs.Contents.{AreSortedRecords}
use Rattle.zone_contents.proofs.stored.StoredZone.count.Goals as goal

pub returns-clause-count : goal.returns-clause-count
returns-clause-count g c = subst (λ z. c.len.result ≡ length z.records) c.self.view_is c.len.ensures.count

pub returns-clause-sorted : goal.returns-clause-sorted
returns-clause-sorted g c = subst (λ z. AreSortedRecords z.apex z.records) c.self.view_is c.self.invariant.records_are

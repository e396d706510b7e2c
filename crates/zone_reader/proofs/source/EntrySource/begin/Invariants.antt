use Rattle.zone_reader.specs.Source.{parts_after_unread}
use Rattle.zone_reader.proofs.Passing.{PassesTo, still}
use Rattle.zone_reader.proofs.source.EntrySource.begin.Given as goal

abbrev pub invariant-entries : goal.invariant-entries
invariant-entries l = PassesTo l.fn.self (parts_after_unread l.self) l.self.began

abbrev pub decreases-entries : goal.decreases-entries
decreases-entries l = still l.self

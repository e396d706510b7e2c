use Rattle.std.proofs.Common.{◌≡◌, take}
use Rattle.findings.specs.Collected.{HasCollected}
use Rattle.findings.proofs.collector.show_findings.Given as goal

abbrev pub invariant-loop-finding : goal.invariant-loop-finding
invariant-loop-finding l = HasCollected (take l.finding-index l.findings) l.collector × (l.collector.policy ≡ l.policy) × (l.collector.tally.most ≡ l.most)

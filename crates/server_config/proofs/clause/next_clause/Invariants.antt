use Rattle.std.proofs.Common.{◌-◌, ◌≤◌, length}
use Rattle.server_config.proofs.ClauseSteps.{ClauseLeft}
use Rattle.server_config.proofs.clause.next_clause.Given as goal

abbrev pub invariant-loop-at : goal.invariant-loop-at
invariant-loop-at l = record {
  counted : l.words ≤ l.at;
  after : l.from ≤ l.at;
  left : ClauseLeft l.text l.from l.words l.at;
}

abbrev pub decreases-loop-at : goal.decreases-loop-at
decreases-loop-at l = length l.text - l.at

use Rattle.std.proofs.Common.{◌-◌, ◌≤◌, length}
use Rattle.server_config.proofs.TokenSteps.{TokenLeft}
use Rattle.server_config.proofs.token.read_token.Given as goal

abbrev pub invariant-loop-at : goal.invariant-loop-at
invariant-loop-at l = record {
  after : l.from ≤ l.at;
  left : TokenLeft l.syntax l.text l.from l.at;
}

abbrev pub decreases-loop-at : goal.decreases-loop-at
decreases-loop-at l = length l.text - l.at

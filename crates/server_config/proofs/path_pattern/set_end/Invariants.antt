use Rattle.std.proofs.Common.{length, ◌-◌, ◌≡◌, ◌≤◌, ◌==◌, true, drop}
use Rattle.server_config.specs.PathPatterns.{set_end}
use Rattle.server_config.proofs.path_pattern.set_end.Given as goal

abbrev pub invariant-loop-at : goal.invariant-loop-at
invariant-loop-at l = record {
  within : l.at ≤ length l.text;
  rest : set_end l.at 0 (l.at == 0) (drop l.at l.text) ≡ set_end 0 0 true l.text;
}

abbrev pub decreases-loop-at : goal.decreases-loop-at
decreases-loop-at l = length l.text - l.at

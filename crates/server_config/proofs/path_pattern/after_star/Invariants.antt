use Rattle.std.proofs.Common.{length, ◌+◌, ◌-◌}
use Rattle.server_config.proofs.StarSteps.{IsPassed}
use Rattle.server_config.proofs.path_pattern.after_star.Given as goal

abbrev pub invariant-loop-from : goal.invariant-loop-from
invariant-loop-from l = IsPassed l.pattern l.name l.from

abbrev pub decreases-loop-from : goal.decreases-loop-from
decreases-loop-from l = length l.name + 1 - l.from

use Rattle.std.proofs.Common.{length, ◌-◌}
use Rattle.server_config.proofs.PatternSteps.{IsBeforeStar}
use Rattle.server_config.proofs.path_pattern.after_items.Given as goal

abbrev pub invariant-loop-index : goal.invariant-loop-index
invariant-loop-index l = IsBeforeStar l.pattern l.name l.index l.at

abbrev pub decreases-loop-index : goal.decreases-loop-index
decreases-loop-index l = length l.pattern - l.index

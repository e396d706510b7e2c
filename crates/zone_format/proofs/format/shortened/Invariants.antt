use Rattle.std.proofs.Common.{◌≡◌, ◌≤◌, length, take}
use Rattle.zone_format.specs.Marks.{shortened}
use Rattle.zone_format.proofs.format.shortened.Given as goal

abbrev pub invariant-loop-end : goal.invariant-loop-end
invariant-loop-end l = record {
  within : l.end ≤ length l.comment;
  same : shortened l.comment ≡ shortened (take l.end l.comment);
}

abbrev pub decreases-loop-end : goal.decreases-loop-end
decreases-loop-end l = l.end

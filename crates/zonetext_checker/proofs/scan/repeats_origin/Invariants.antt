use Rattle.std.proofs.Common.{◌-◌, length}
use Rattle.zonetext_checker.proofs.scan.repeats_origin.Given as goal

abbrev pub decreases-loop-start : goal.decreases-loop-start
decreases-loop-start l = length l.starts - l.start

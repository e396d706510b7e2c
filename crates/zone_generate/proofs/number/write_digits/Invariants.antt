use Rattle.zone_generate.proofs.DigitSteps.{DigitsDone}
use Rattle.zone_generate.proofs.number.write_digits.Given as goal

abbrev pub invariant-loop-start : goal.invariant-loop-start
invariant-loop-start l = DigitsDone l.base l.is_upper l.number l.start l.rest l.buffer

abbrev pub decreases-loop-start : goal.decreases-loop-start
decreases-loop-start l = l.start

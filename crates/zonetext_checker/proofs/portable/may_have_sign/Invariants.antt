use Rattle.std.proofs.Common.{length}
use Rattle.zonetext_checker.proofs.portable.may_have_sign.Given as goal

abbrev pub decreases-loop-rest : goal.decreases-loop-rest
decreases-loop-rest l = length l.rest

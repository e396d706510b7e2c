use Rattle.std.proofs.Common.{◌≡◌, length}
use Rattle.mail_texts.specs.Dkim.{has_lone_digit}
use Rattle.mail_texts.proofs.dkim.has_lone_digit.Given as goal

abbrev pub invariant-loop-rest : goal.invariant-loop-rest
invariant-loop-rest l = has_lone_digit l.rest ≡ has_lone_digit l.fn.digits

abbrev pub decreases-loop-rest : goal.decreases-loop-rest
decreases-loop-rest l = length l.rest

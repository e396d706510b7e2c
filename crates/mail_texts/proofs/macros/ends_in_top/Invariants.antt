use Rattle.std.proofs.Common.{◌≡◌, length}
use Rattle.mail_texts.specs.Macros.{ends_in_top}
use Rattle.mail_texts.proofs.macros.ends_in_top.Given as goal

abbrev pub invariant-loop-rest : goal.invariant-loop-rest
invariant-loop-rest l = ends_in_top l.rest ≡ ends_in_top l.fn.octets

abbrev pub decreases-loop-rest : goal.decreases-loop-rest
decreases-loop-rest l = length l.rest

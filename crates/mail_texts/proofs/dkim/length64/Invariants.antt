use Rattle.std.proofs.Common.{◌≡◌, ◌≤◌, ◌+◌, length}
use Rattle.mail_texts.specs.Dkim.{octets_of64}
use Rattle.mail_texts.proofs.dkim.length64.Given as goal

abbrev pub invariant-loop-rest : goal.invariant-loop-rest
invariant-loop-rest l = (l.count + length (octets_of64 l.rest) ≡ length (octets_of64 l.fn.digits)) × (l.count + length l.rest ≤ length l.fn.digits)

abbrev pub decreases-loop-rest : goal.decreases-loop-rest
decreases-loop-rest l = length l.rest

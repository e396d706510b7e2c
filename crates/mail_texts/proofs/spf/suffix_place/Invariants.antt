use Rattle.std.proofs.Common.{◌≡◌, ◌+◌, length}
use Rattle.mail_texts.specs.SpfTerms.{suffix_place}
use Rattle.mail_texts.proofs.spf.suffix_place.Given as goal

abbrev pub invariant-loop-rest : goal.invariant-loop-rest
invariant-loop-rest l = (l.place + suffix_place l.rest ≡ suffix_place l.fn.octets) × (l.place + length l.rest ≡ length l.fn.octets)

abbrev pub decreases-loop-rest : goal.decreases-loop-rest
decreases-loop-rest l = length l.rest

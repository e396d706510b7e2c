use Rattle.rdata_tails.proofs.HeightLemmas.{FirstDigits}
use Rattle.rdata_tails.proofs.heights.size_octet.Given as goal

abbrev pub invariant-loop-digit : goal.invariant-loop-digit
invariant-loop-digit l = FirstDigits l.number l.digit l.behind

abbrev pub decreases-loop-digit : goal.decreases-loop-digit
decreases-loop-digit l = l.digit

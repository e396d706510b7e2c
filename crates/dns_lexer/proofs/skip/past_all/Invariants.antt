use Rattle.std.proofs.Common.{length, ◌-◌}
use Rattle.dns_lexer.specs.Run.{Passes}
use Rattle.dns_lexer.proofs.skip.past_all.Given as goal

abbrev pub invariant-loop-place : goal.invariant-loop-place
invariant-loop-place l = Passes l.octets l.initial.place l.place

abbrev pub decreases-loop-place : goal.decreases-loop-place
decreases-loop-place l = length l.octets - l.place.at

use Rattle.std.proofs.Common.{◌≤◌, length}
use Rattle.zonetext_checker.proofs.spelled_names.skip_word.Given as goal

abbrev pub invariant-loop-rest : goal.invariant-loop-rest
invariant-loop-rest l = length l.rest ≤ length l.octets

abbrev pub decreases-loop-rest : goal.decreases-loop-rest
decreases-loop-rest l = length l.rest

abbrev pub invariant-loop-rest-2 : goal.invariant-loop-rest-2
invariant-loop-rest-2 l = length l.rest ≤ length l.octets

abbrev pub decreases-loop-rest-2 : goal.decreases-loop-rest-2
decreases-loop-rest-2 l = length l.rest

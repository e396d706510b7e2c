use Rattle.std.proofs.Common.{length, ◌-◌, ◌≤◌}
use Rattle.dns_lexer.specs.Reader.{home}
use Rattle.dns_lexer.specs.Run.{SameRun}
use Rattle.dns_lexer.proofs.skip.token_end.Given as goal

abbrev pub invariant-loop-place : goal.invariant-loop-place
invariant-loop-place l = record {
  on : l.at ≤ l.place;
  within : l.place ≤ length l.octets;
  same : SameRun (home l.within) l.octets l.at l.place;
}

abbrev pub decreases-loop-place : goal.decreases-loop-place
decreases-loop-place l = length l.octets - l.place

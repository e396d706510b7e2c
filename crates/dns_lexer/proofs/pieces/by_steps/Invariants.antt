use Rattle.std.proofs.Common.{length, ◌-◌, ◌≡◌, ◌≤◌, drop}
use Rattle.dns_lexer.specs.Run.{run}
use Rattle.dns_lexer.proofs.pieces.by_steps.Given as goal

abbrev pub invariant-loop-at : goal.invariant-loop-at
invariant-loop-at l = record {
  deep : l.depth ≤ l.at;
  within : l.at ≤ length l.octets;
  left : run l.mode l.depth l.start l.at l.begins_blank (drop l.at l.octets) ≡ run l.initial.mode l.initial.depth l.initial.start l.initial.at l.begins_blank (drop l.initial.at l.octets);
}

abbrev pub decreases-loop-at : goal.decreases-loop-at
decreases-loop-at l = length l.octets - l.at

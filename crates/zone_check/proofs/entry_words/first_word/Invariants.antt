use Rattle.std.proofs.Common.{◌≤◌, ◌-◌, length}
use Rattle.zone_check.proofs.WordSteps.{NoneBefore}
use Rattle.zone_check.proofs.entry_words.first_word.Given as goal

abbrev pub invariant-loop-place : goal.invariant-loop-place
invariant-loop-place l = record {
  within : l.place ≤ length l.tokens;
  before : NoneBefore l.kind l.tokens l.place;
}

abbrev pub decreases-loop-place : goal.decreases-loop-place
decreases-loop-place l = length l.tokens - l.place

use Rattle.std.proofs.Common.{◌≡◌, ◌≤◌, ◌-◌, drop, length}
use Rattle.zone_format.specs.Columns.{spells}
use Rattle.zone_format.proofs.columns.spells.Given as goal

abbrev pub invariant-loop-place : goal.invariant-loop-place
invariant-loop-place l = record {
  within : l.place ≤ length l.letters;
  long : length l.letters ≡ length l.token;
  same : spells l.letters l.token ≡ spells (drop l.place l.letters) (drop l.place l.token);
}

abbrev pub decreases-loop-place : goal.decreases-loop-place
decreases-loop-place l = length l.letters - l.place

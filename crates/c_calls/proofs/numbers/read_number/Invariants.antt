use Rattle.std.proofs.Common.{◌≤◌, ◌-◌, length}
use Rattle.c_calls.specs.Numbers.{HasNumberBefore}
use Rattle.c_calls.proofs.numbers.read_number.Given as goal

abbrev pub invariant-loop-symbol : goal.invariant-loop-symbol
invariant-loop-symbol l = record {
  read : HasNumberBefore l.greatest l.text l.value l.place;
  within : l.place ≤ length l.text;
}

abbrev pub decreases-loop-symbol : goal.decreases-loop-symbol
decreases-loop-symbol l = length l.text - l.place

use Rattle.std.proofs.Common.{◌≤◌, ◌-◌, length}
use Rattle.c_calls.specs.Strings.{HasOctetsBefore}
use Rattle.c_calls.proofs.strings.read_string.Given as goal

abbrev pub invariant-loop-symbol : goal.invariant-loop-symbol
invariant-loop-symbol l = record {
  read : HasOctetsBefore l.text l.octets.items l.place;
  few : length l.octets.items ≤ 255;
  within : l.place ≤ length l.text;
}

abbrev pub decreases-loop-symbol : goal.decreases-loop-symbol
decreases-loop-symbol l = length l.text - l.place

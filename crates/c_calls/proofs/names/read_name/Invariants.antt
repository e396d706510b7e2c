use Rattle.std.proofs.Common.{◌≤◌, ◌-◌, length, drop}
use Rattle.dns_name.specs.Reading.{HasNamed}
use Rattle.c_calls.proofs.names.read_name.Given as goal

abbrev pub invariant-loop-symbol : goal.invariant-loop-symbol
invariant-loop-symbol l = record {
  named : HasNamed l.text l.builder.labels l.builder.current (drop l.place l.text);
  within : l.place ≤ length l.text;
}

abbrev pub decreases-loop-symbol : goal.decreases-loop-symbol
decreases-loop-symbol l = length l.text - l.place

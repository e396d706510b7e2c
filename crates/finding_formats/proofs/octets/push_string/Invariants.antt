use Rattle.std.proofs.Common.{◌≡◌, ◌++◌, ◌≤◌, ◌-◌, length, take}
use Rattle.std.specs.List.{flat_map}
use Rattle.finding_formats.specs.Octets.{json_octet}
use Rattle.finding_formats.proofs.octets.push_string.Given as goal

abbrev pub invariant-loop-place : goal.invariant-loop-place
invariant-loop-place g l = record {
  within : l.place ≤ length l.octets;
  out : l.out.items ≡ l.initial.out.items ++ flat_map json_octet (take l.place l.octets);
}

abbrev pub decreases-loop-place : goal.decreases-loop-place
decreases-loop-place g l = length l.octets - l.place

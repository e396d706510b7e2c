use Rattle.std.proofs.Common.{◌≤◌, ◌-◌, length, drop}
use Rattle.dns_charstr.specs.OctetText.{SpellsOctets}
use Rattle.c_calls.proofs.strings.read_octets.Given as goal

abbrev pub invariant-loop-octet : goal.invariant-loop-octet
invariant-loop-octet l = record {
  read : SpellsOctets l.text l.octets.items (drop l.place l.text);
  few : length l.octets.items ≤ 255;
  within : l.place ≤ length l.text;
}

abbrev pub decreases-loop-octet : goal.decreases-loop-octet
decreases-loop-octet l = length l.text - l.place

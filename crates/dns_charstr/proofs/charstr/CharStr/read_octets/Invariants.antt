use Rattle.std.proofs.Common.{◌≤◌, ◌-◌, length, drop}
use Rattle.dns_charstr.specs.OctetText.{SpellsOctets}
use Rattle.dns_charstr.proofs.charstr.CharStr.read_octets.Given as goal

abbrev pub invariant-loop-octets : goal.invariant-loop-octets
invariant-loop-octets g l = record {
  read : SpellsOctets l.text l.octets (drop l.place l.text);
  short : length l.octets ≤ 255;
  within : length l.octets ≤ g.Octs.Builder.OctetsBuilder.room.capacity;
}

abbrev pub decreases-loop-octets : goal.decreases-loop-octets
decreases-loop-octets g l = length l.text - l.place

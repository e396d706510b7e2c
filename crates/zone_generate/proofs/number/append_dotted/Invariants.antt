use Rattle.std.proofs.Common.{◌≡◌, ◌++◌, ◌<◌}
use Rattle.dns_octets.specs.Appending.{Extends}
use Rattle.zone_generate.specs.NumberTexts.{dotted_nibbles}
use Rattle.zone_generate.proofs.number.append_dotted.Given as goal

abbrev pub invariant-loop-left : goal.invariant-loop-left
invariant-loop-left g l = record {
  some : 0 < l.left;
  made : g.B.AsOctets.octets l.out ++ dotted_nibbles l.is_upper l.left l.rest ≡ g.B.AsOctets.octets l.initial.out ++ dotted_nibbles l.is_upper l.count l.number;
  extends : Extends (g.B.AsOctets.octets l.initial.out) (g.B.AsOctets.octets l.out);
}

abbrev pub decreases-loop-left : goal.decreases-loop-left
decreases-loop-left g l = l.left

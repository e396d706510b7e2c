use Rattle.std.proofs.Common.{◌≡◌, ◌++◌}
use Rattle.std.specs.Prelude.{replicate}
use Rattle.dns_octets.specs.Appending.{Extends}
use Rattle.zone_generate.proofs.number.append_zeros.Given as goal

abbrev pub invariant-loop-left : goal.invariant-loop-left
invariant-loop-left g l = record {
  made : g.B.AsOctets.octets l.out ++ replicate l.left 48 ≡ g.B.AsOctets.octets l.initial.out ++ replicate l.count 48;
  extends : Extends (g.B.AsOctets.octets l.initial.out) (g.B.AsOctets.octets l.out);
}

abbrev pub decreases-loop-left : goal.decreases-loop-left
decreases-loop-left g l = l.left

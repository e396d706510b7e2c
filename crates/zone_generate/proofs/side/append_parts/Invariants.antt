use Rattle.std.proofs.Common.{◌-◌, ◌≤◌, ◌++◌, length}
use Rattle.dns_octets.specs.Appending.{Extends}
use Rattle.zone_generate.proofs.PartSteps.{TextLeft}
use Rattle.zone_generate.specs.Parts.{side_parts, parts_or_none, side_text}
use Rattle.zone_generate.proofs.side.append_parts.Given as goal

abbrev pub invariant-loop-at : goal.invariant-loop-at
invariant-loop-at g l =
    let octets = g.B.AsOctets.octets in
    record {
      within : l.at ≤ length l.text;
      left : TextLeft l.last l.is_quoted l.has_offset l.text l.at l.number (octets l.out) (octets l.initial.out ++ side_text l.number (parts_or_none (side_parts l.last l.is_quoted l.text)));
      extends : Extends (octets l.initial.out) (octets l.out);
    }

abbrev pub decreases-loop-at : goal.decreases-loop-at
decreases-loop-at g l = length l.text - l.at

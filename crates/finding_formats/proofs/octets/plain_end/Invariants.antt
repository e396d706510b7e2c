use Rattle.std.proofs.Common.{◌≡◌, ◌≤◌, ◌-◌, length}
use Rattle.std.specs.List.{flat_map}
use Rattle.dns_lexer.specs.Pieces.{between}
use Rattle.finding_formats.specs.Octets.{json_octet}
use Rattle.finding_formats.proofs.octets.plain_end.Given as goal

abbrev pub invariant-loop-end : goal.invariant-loop-end
invariant-loop-end l = record {
  on : l.start ≤ l.end;
  within : l.end ≤ length l.octets;
  plain : flat_map json_octet (between l.octets l.start l.end) ≡ between l.octets l.start l.end;
}

abbrev pub decreases-loop-end : goal.decreases-loop-end
decreases-loop-end l = length l.octets - l.end

use Rattle.std.proofs.Common.{take}
use Rattle.std.specs.List.{flat_map}
use Rattle.zone_format.specs.Marks.{gap_mark}
use Rattle.zone_format.specs.Writing.{Moves}
use Rattle.zone_format.proofs.writing.push_gap.Given as goal

abbrev pub invariant-loop-octet : goal.invariant-loop-octet
invariant-loop-octet g l = Moves (flat_map gap_mark (take l.octet-index l.gap)) l.initial.out.items l.initial.line_state l.octet-index l.out.items l.line_state

use Rattle.std.proofs.Common.{length, ◌-◌}
use Rattle.zone_edit.proofs.Applying.{AppliesPart}
use Rattle.zone_edit.proofs.editor.append_chunk.Given as goal

abbrev pub invariant-edits : goal.invariant-edits
invariant-edits g l = record {
  part : AppliesPart l.edits l.fn.reached l.chunk l.initial.out.items l.out.items l.done l.from;
}

abbrev pub decreases-edits : goal.decreases-edits
decreases-edits g l = length l.edits - l.done

use Rattle.std.proofs.Common.{ℕ, ◌≡◌, ◌+◌, drop}
use Rattle.zone_edit.specs.Edits.{EndWithin, IsFirstPastEnd}
use Rattle.zone_edit.proofs.edit.check_ends.Given as goal

abbrev pub invariant-loop-edit : goal.invariant-loop-edit
invariant-loop-edit g l = record {
  counted : l.index ≡ l.edit-index;
  within : EndWithin l.len (drop l.edit-index l.edits) → EndWithin l.len l.edits;
  first : (i : ℕ) → IsFirstPastEnd l.len (drop l.edit-index l.edits) i → IsFirstPastEnd l.len l.edits (l.edit-index + i);
}

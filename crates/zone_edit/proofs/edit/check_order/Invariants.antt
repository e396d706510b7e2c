use Rattle.std.proofs.Common.{ℕ, ◌≡◌, ◌+◌, drop}
use Rattle.zone_edit.specs.Edits.{AreApart, IsFirstOutOfOrder}
use Rattle.zone_edit.proofs.edit.check_order.Given as goal

abbrev pub invariant-loop-edit : goal.invariant-loop-edit
invariant-loop-edit g l = record {
  counted : l.index ≡ l.edit-index;
  ordered : AreApart l.at (drop l.edit-index l.edits) → AreApart 0 l.edits;
  first : (i : ℕ) → IsFirstOutOfOrder l.at (drop l.edit-index l.edits) i → IsFirstOutOfOrder 0 l.edits (l.edit-index + i);
}

use Rattle.std.proofs.Common.{◌≡◌, ℕ, List, ◌++◌, length, map}
use Rattle.std.specs.Fmt.{HasWritten, IsPlainFormatter}
use Rattle.rdata_svcb.specs.ShownParams.{comma_if, value_item_text, value_items, items_text}
use Rattle.rdata_svcb.proofs.ShownItems.{later_items}
use Rattle.rdata_svcb.proofs.shown.write_items.Given as goal

abbrev pub invariant-loop-rest : goal.invariant-loop-rest
invariant-loop-rest g l = IsPlainFormatter l.fn.f → (done : List ℕ) × HasWritten g.W.Write.write_str_gives l.fn.f done l.f
    × (done ++ later_items (comma_if l.is_later) (map (value_item_text l.kind) (value_items l.kind l.rest)) ≡ items_text l.kind l.value)

abbrev pub decreases-loop-rest : goal.decreases-loop-rest
decreases-loop-rest g l = length l.rest

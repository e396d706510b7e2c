use Rattle.std.proofs.Common.{sym}
use Rattle.rdata_svcb.proofs.Templates.{mark_place, no_mark_place}
use Rattle.rdata_svcb.proofs.template.name_width.Goals as goal

pub returns-then-is_mark-clause-width : goal.returns-then-is_mark-clause-width
returns-then-is_mark-clause-width c = mark_place c.args.text.now c.loop-place.place c.loop-place-test.true c.loop-place.invariant (sym c.if-is_mark.ensures)

pub returns-clause-width : goal.returns-clause-width
returns-clause-width c = no_mark_place c.args.text.now _ c.loop-place-test.false c.loop-place.invariant

use Rattle.std.proofs.Common.{◌∙◌, arith}
use Rattle.rdata_values.proofs.TypesOf.{none_left}
use Rattle.rdata_values.proofs.bitmap.find_type.Goals as goal

pub returns-then-cursor-lt2 : goal.returns-then-cursor-lt2
returns-then-cursor-lt2 c =
    let at = c.loop-place.cursor in
    c.loop-place.invariant.1 ∙ none_left at.window at.place at.octets.now at.rest.now c.in_default.ensures (omega arith)

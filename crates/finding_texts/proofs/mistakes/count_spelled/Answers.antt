use Rattle.std.proofs.Common.{◌<◌, length, ap, arith, eqb-true, sym}
use Rattle.finding_texts.specs.Mistakes.{count_spelled, spelled_after}
use Rattle.finding_texts.proofs.Escapes.{begins, nothing, shorter}
use Rattle.finding_texts.proofs.mistakes.count_spelled.Goals as goal

pub rests-preserved : goal.rests-preserved
rests-preserved c =
    let rest = c.rests.rest.now in
    let some : 0 < length rest = grind (arith, c.rests-test.ensures) in
    let next = c.after_spelled-rest.ensures in
    record {
      counted = omega (arith, c.rests.invariant.counted, ap length (begins rest some), ap count_spelled next);
      within = omega (arith, c.rests.invariant.within, shorter rest some, ap length next);
    }

pub returns : goal.returns
unfolding spelled_after
returns c =
    let none = nothing c.rests.rest.now (eqb-true (length c.rests.rest.now) 0 (sym c.rests-test.ensures)) in
    omega (arith, c.rests.invariant.counted, ap count_spelled none)

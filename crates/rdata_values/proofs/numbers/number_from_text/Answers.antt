use Rattle.std.proofs.Common.{rules, arith, subst, sym}
use Rattle.rdata_values.specs.Numbers.{ReadsNumeral}
use Rattle.rdata_values.proofs.NumberLemmas.{refused, whole}
use Rattle.rdata_values.proofs.numbers.number_from_text.Goals as goal

pub returns-in_err-number : goal.returns-in_err-number
returns-in_err-number c =
    subst (ReadsNumeral c.args.text.now) (sym c.from_residual.ensures) (refused c.args.text.now c.loop-byte.number c.loop-byte.byte-index (search rules) c.in_err-number.ensures c.loop-byte.invariant)

pub returns : goal.returns
returns c =
    let h = whole c.args.text.now c.loop-byte.number c.loop-byte.byte-index (omega arith) c.loop-byte.invariant in
    let some = c.if-is_empty.ensures in
    (((search rules, h.0), omega (arith, h.1, c.loop-byte.invariant.small)), h.1)

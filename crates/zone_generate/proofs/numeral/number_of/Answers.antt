use Rattle.std.proofs.Common.{rules, arith, subst, sym}
use Rattle.zone_generate.specs.Numerals.{ReadsDigits}
use Rattle.zone_generate.proofs.DigitTexts.{digits_refused, digits_whole}
use Rattle.zone_generate.proofs.numeral.number_of.Goals as goal

pub returns-in_err-number : goal.returns-in_err-number
returns-in_err-number c =
    subst (ReadsDigits c.args.text.now) (sym c.from_residual.ensures) (digits_refused c.args.text.now c.loop-byte.number c.loop-byte.byte-index (search rules) c.in_err-number.ensures c.loop-byte.invariant)

pub returns : goal.returns
returns c =
    let h = digits_whole c.args.text.now c.loop-byte.number c.loop-byte.byte-index (omega arith) c.loop-byte.invariant in
    ((h.0, omega (arith, h.1, c.loop-byte.invariant.small)), h.1)

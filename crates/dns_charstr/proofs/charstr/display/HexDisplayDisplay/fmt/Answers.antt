use Rattle.std.proofs.Common.{rules, [], ◌∷◌, ◌/◌, ◌%◌, not, eqb}
use Rattle.std.specs.Prelude.{slice_index}
use Rattle.std.proofs.Output.{has_written_append, has_written_of_eq}
use Rattle.dns_charstr.specs.Printed.{hex_digits}
use Rattle.dns_charstr.proofs.Texts.{text_more}
use Rattle.dns_charstr.proofs.charstr.display.HexDisplayDisplay.fmt.Goals as goal

pub loop-octet-preserved : goal.loop-octet-preserved
loop-octet-preserved g c = λ p.
    let digits = hex_digits (not (eqb g.row.IS_UPPER 0)) in
    has_written_of_eq _ _ _ _ _ (text_more (λ o. slice_index digits (o / 16) ∷ slice_index digits (o % 16) ∷ []) c.args.self.now.octets.now c.loop-octet.octet-index c.loop-octet-test.true)
    (has_written_append _ _ _ _ _ _ (c.loop-octet.invariant p) (rw (← c.digits_of-digits.ensures) (search rules)))

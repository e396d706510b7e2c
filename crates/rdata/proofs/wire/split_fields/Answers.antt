use Rattle.std.proofs.Common.{refl}
use Rattle.rdata.proofs.FieldFronts.{one_split, not_split, field_next}
use Rattle.rdata.proofs.wire.split_fields.Goals as goal

pub returns-in_err-width : goal.returns-in_err-width
returns-in_err-width c =
    rw c.from_residual.ensures (not_split c.args.fields.now _ _ c.args.octets.now c.loop-field.left.now _ c.loop-field.invariant (field_next c.args.fields.now c.loop-field.field-index _ c.loop-field-test.true) c.in_err-width.ensures)

pub loop-field-preserved : goal.loop-field-preserved
loop-field-preserved c =
    one_split c.args.fields.now _ _ c.args.octets.now c.loop-field.left.now _ _ c.in_ok-width.width c.loop-field.invariant (field_next c.args.fields.now c.loop-field.field-index _ c.loop-field-test.true) c.in_ok-width.ensures refl

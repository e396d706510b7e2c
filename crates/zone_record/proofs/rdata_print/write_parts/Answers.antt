use Rattle.std.proofs.Common.{sym, refl, arith}
use Rattle.std.proofs.lemmas.List.{length-take-le}
use Rattle.zone_record.proofs.PrintedFields.{front_field, rest_left, field_printed, parts_printed, field_failed, parts_failed}
use Rattle.zone_record.proofs.PrintedTokens.{on_err_of}
use Rattle.zone_record.proofs.rdata_print.write_parts.Goals as goal

pub first_width-width-requires : goal.first_width-width-requires
first_width-width-requires g c =
    let begins = c.loop-field.invariant.begins in
    front_field c.args.shape.now.fields.now c.loop-field.field-index _ c.loop-field.rest.now begins.0 (omega arith) begins.1

pub slice_bounds-write_token-end : goal.slice_bounds-write_token-end
slice_bounds-write_token-end g c = sym (length-take-le c.first_width-width.result c.loop-field.rest.now c.first_width-width.ensures.fits)

pub write_rest-requires : goal.write_rest-requires
write_rest-requires g c =
    let begins = c.loop-field.invariant.begins in
    rest_left c.args.shape.now.fields.now c.loop-field.field-index c.args.shape.now.rest c.loop-field.rest.now begins.0 (omega arith) begins.1 begins.2

pub loop-field-preserved : goal.loop-field-preserved
loop-field-preserved g c =
    let begins = c.loop-field.invariant.begins in
    let next =
    field_printed _ _ _ _ c.args.shape.now.fields.now c.loop-field.field-index c.args.shape.now.rest _ c.loop-field.rest.now begins.0 c.first_width-width.result _ _ _ (omega arith)
    c.first_width-width.ensures.size refl begins.1 c.loop-field.invariant.printed c.in_ok-write_token.ensures.blocks c.in_ok-write_token.ensures.gives in
    record { printed = next.0; begins = (begins.0, next.1, begins.2) }

pub returns-in_err-write_token-clause-fails : goal.returns-in_err-write_token-clause-fails
returns-in_err-write_token-clause-fails g c =
    on_err_of c.from_residual.result
    (field_failed _ _ _ _ c.args.shape.now.fields.now c.loop-field.field-index c.args.shape.now.rest _ _ c.loop-field.rest.now c.first_width-width.result _ (omega arith)
    c.first_width-width.ensures.size c.loop-field.invariant.printed c.in_err-write_token.ensures.fails)

pub returns-clause-gives : goal.returns-clause-gives
returns-clause-gives g c =
    parts_printed _ _ _ _ c.args.shape.now.fields.now c.loop-field.field-index c.args.shape.now.rest c.write_rest.result c.loop-field.rest.now _ _ (omega arith) c.loop-field.invariant.printed c.write_rest.ensures.gives

pub returns-clause-fails : goal.returns-clause-fails
returns-clause-fails g c =
    parts_failed _ _ _ _ c.args.shape.now.fields.now c.loop-field.field-index c.args.shape.now.rest _ c.write_rest.result c.loop-field.rest.now _ (omega arith) c.loop-field.invariant.printed c.write_rest.ensures.fails

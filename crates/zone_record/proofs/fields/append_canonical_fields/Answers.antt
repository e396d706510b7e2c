use Rattle.std.proofs.Common.{get_or, arith, refl}
use Rattle.std.proofs.lemmas.List.{length-take-le}
use Rattle.std.proofs.lemmas.Result.{err_from_is_err_and}
use Rattle.rdata_fields.specs.declared.field.Field.TheVariants.{Number8}
use Rattle.dns_wire.proofs.Wires.{short_of}
use Rattle.zone_record.proofs.FieldWalks.{fields_none, fields_more, next_field, lacks_form, more_behind}
use Rattle.zone_record.proofs.fields.append_canonical_fields.Goals as goal

pub loop-field-init : goal.loop-field-init
loop-field-init g c = fields_none c.args.fields.now c.args.octets.now (g.B.AsOctets.octets c.args.target.now)

pub loop-field-preserved : goal.loop-field-preserved
loop-field-preserved g c =
    let fields = c.args.fields.now in
    let rest = c.loop-field.rest.now in
    let next = next_field fields c.loop-field.field-index Number8 c.args.octets.now rest _ _ c.loop-field.invariant c.loop-field-test.true in
    fields_more fields _ (get_or fields c.loop-field.field-index Number8) c.args.octets.now rest _ _ _ c.in-Some.width _ next c.in-Some.ensures c.in_ok-append_canonical_field.ensures.ok refl

pub returns-in_err-append_canonical_field-clause-err : goal.returns-in_err-append_canonical_field-clause-err
returns-in_err-append_canonical_field-clause-err g c =
    let rest = c.loop-field.rest.now in
    let p = err_from_is_err_and c.from_residual.result c.from_residual.ensures.1 in
    rw (p.1, p.2) (lacks_form g.B.OctetsBuilder.room c.args.fields.now _ c.args.octets.now rest _ _ _ c.loop-field.invariant c.in_err-append_canonical_field.ensures.err
    (omega (arith, c.in-Some.ensures.0, length-take-le c.in-Some.width rest c.in-Some.ensures.0)))

pub returns-in_err-append_canonical_field-clause-extends : goal.returns-in_err-append_canonical_field-clause-extends
returns-in_err-append_canonical_field-clause-extends g c =
    let p = err_from_is_err_and c.from_residual.result c.from_residual.ensures.1 in
    rw p.1 (more_behind c.args.fields.now _ c.args.octets.now c.loop-field.rest.now _ _ _ c.loop-field.invariant c.in_err-append_canonical_field.ensures.extends)

pub returns-in_err-append_slice-clause-err : goal.returns-in_err-append_slice-clause-err
returns-in_err-append_slice-clause-err g c =
    let p = err_from_is_err_and c.from_residual-in_err-append_slice.result c.from_residual-in_err-append_slice.ensures.1 in
    rw (p.1, p.2) (lacks_form g.B.OctetsBuilder.room c.args.fields.now _ c.args.octets.now c.loop-field.rest.now _ _ _ c.loop-field.invariant (short_of _ _ _ c.in_err-append_slice.ensures.fits) (omega arith))

use Rattle.std.proofs.Common.{refl}
use Rattle.rdata_fields.specs.declared.field.Field.TheVariants.{Number8}
use Rattle.zone_record.proofs.PartWalks.{next_part, part_found, part_passed}
use Rattle.zone_record.proofs.parts.leading_part.Goals as goal

pub first_width-width-requires : goal.first_width-width-requires
first_width-width-requires c =
    let next = next_part c.args.fields.now c.loop-field.field-index Number8 c.args.place c.loop-field.count c.args.octets.now c.loop-field.rest.now c.loop-field.invariant c.loop-field-test.true in
    let s = next.starts in (s.0, s.1, s.2, s.3, tt)

pub returns-then-count-eq0 : goal.returns-then-count-eq0
returns-then-count-eq0 c =
    let next = next_part c.args.fields.now c.loop-field.field-index Number8 c.args.place c.loop-field.count c.args.octets.now c.loop-field.rest.now c.loop-field.invariant c.loop-field-test.true in
    part_found _ _ _ _ _ _ _ c.first_width-width.result next c.if-count-eq0.true c.first_width-width.ensures

pub loop-field-preserved : goal.loop-field-preserved
loop-field-preserved c =
    let next = next_part c.args.fields.now c.loop-field.field-index Number8 c.args.place c.loop-field.count c.args.octets.now c.loop-field.rest.now c.loop-field.invariant c.loop-field-test.true in
    part_passed _ _ _ _ _ _ _ c.first_width-width.result _ next c.if-count-eq0.false c.first_width-width.ensures refl

use Rattle.std.proofs.Common.{true≢false, ap, sym, refl, ◌∙◌}
use Rattle.std.specs.Ordering.{is_ne}
use Rattle.rdata_fields.specs.declared.field.Field.TheVariants.{Number8}
use Rattle.zone_record.proofs.CanonicalOrders.{not_unequal, walk_next, walk_decided, walk_more}
use Rattle.zone_record.proofs.order.compare_in_fields.Goals as goal

pub first_width-left_width-requires : goal.first_width-left_width-requires
first_width-left_width-requires c =
    let next = walk_next c.args.fields.now c.loop-field.field-index Number8 c.args.left.now c.args.right.now c.loop-field.left_rest.now c.loop-field.right_rest.now c.loop-field.invariant c.loop-field-test.true in
    let s = next.left_starts in (s.0, s.1, s.2, s.3, tt)

pub returns-then-is_ne : goal.returns-then-is_ne
returns-then-is_ne c =
    let next = walk_next c.args.fields.now c.loop-field.field-index Number8 c.args.left.now c.args.right.now c.loop-field.left_rest.now c.loop-field.right_rest.now c.loop-field.invariant c.loop-field-test.true in
    walk_decided _ _ _ _ _ _ _ _ _ c.compare_field-order.result next c.first_width-left_width.ensures c.first_width-right_width.ensures c.compare_field-order.ensures
    (λ e. true≢false (c.if-is_ne.ensures ∙ ap is_ne e))

pub loop-field-preserved : goal.loop-field-preserved
loop-field-preserved c =
    let next = walk_next c.args.fields.now c.loop-field.field-index Number8 c.args.left.now c.args.right.now c.loop-field.left_rest.now c.loop-field.right_rest.now c.loop-field.invariant c.loop-field-test.true in
    let equal = not_unequal c.compare_field-order.result (sym c.is_ne.ensures ∙ c.if-is_ne.false) in
    walk_more _ _ _ _ _ _ _ _ _ _ _ next c.first_width-left_width.ensures c.first_width-right_width.ensures (sym c.compare_field-order.ensures ∙ equal) refl refl

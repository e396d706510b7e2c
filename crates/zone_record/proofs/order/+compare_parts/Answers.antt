use Rattle.std.proofs.Common.{sym, ◌∙◌}
use Rattle.zone_record.proofs.AnyOrders.{parts_decided, parts_passed}
use Rattle.zone_record.proofs.order.+compare_parts.Goals as goal

pub returns-then-is_ne : goal.returns-then-is_ne
returns-then-is_ne t c =
    parts_decided c.args.fields.now c.in-Some.field.now c.in-Some.more.now c.args.left.now c.args.right.now _ _ _ _ c.compare_field-order.result
    c.in-Some.ensures.cases.0 c.split_field.ensures.first c.split_field-2.ensures.first c.split_field.ensures.rest c.split_field-2.ensures.rest c.compare_field-order.ensures (sym c.is_ne.ensures ∙ c.if-is_ne.true)

pub returns : goal.returns
returns t c =
    c.compare_parts.ensures
    ∙ parts_passed c.args.fields.now c.in-Some.field.now c.in-Some.more.now c.args.left.now c.args.right.now _ _ _ _ c.compare_field-order.result
    c.in-Some.ensures.cases.0 c.split_field.ensures.first c.split_field-2.ensures.first c.split_field.ensures.rest c.split_field-2.ensures.rest c.compare_field-order.ensures (sym c.is_ne.ensures ∙ c.if-is_ne.false)

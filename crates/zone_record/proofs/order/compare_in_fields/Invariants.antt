use Rattle.std.proofs.Common.{drop}
use Rattle.zone_record.proofs.CanonicalOrders.{OrderWalk}
use Rattle.zone_record.proofs.order.compare_in_fields.Given as goal

-- the fields that are left decide as all do
abbrev pub invariant-loop-field : goal.invariant-loop-field
invariant-loop-field l = OrderWalk l.fields (drop l.field-index l.fields) l.left l.right l.left_rest l.right_rest

use Rattle.std.proofs.Common.{◌∙◌}
use Rattle.zone_record.proofs.KeyOrders.{order_behind}
use Rattle.zone_record.proofs.keys.compare_keys.Goals as goal

pub returns-clause-names : goal.returns-clause-names
returns-clause-names c = λ shared a b h k. c.cmp.ensures ∙ order_behind c.args.left.now c.args.right.now shared a b h k

use Rattle.std.proofs.Common.{◌-◌, drop, sym, ap, ◌∙◌, arith, length-drop}
use Rattle.std.specs.Ordering.{ordering_then}
use Rattle.zone_record.specs.Names.{name_order}
use Rattle.zone_record.proofs.NameOrders.{order_level}
use Rattle.zone_record.proofs.names.compare_names.Goals as goal

pub compare_level-requires : goal.compare_level-requires
compare_level-requires c =
    let i = c.count_labels-left_count.result - c.min-shared.result in
    let j = c.count_labels-right_count.result - c.min-shared.result in
    let a = c.requires.left in
    let b = c.requires.right in
    let m = c.count_labels-left_count.ensures a.labels a.whole in
    let n = c.count_labels-right_count.ensures b.labels b.whole in (
      drop i a.labels,
      drop j b.labels,
      c.after_label_count.ensures a.labels a.whole,
      c.after_label_count-2.ensures b.labels b.whole,
      omega (arith, m, n, c.min-shared.ensures, length-drop i a.labels, length-drop j b.labels),
    )

pub returns : goal.returns
returns c = λ a b p q.
    let i = c.count_labels-left_count.result - c.min-shared.result in
    let j = c.count_labels-right_count.result - c.min-shared.result in
    c.compare_level.ensures (drop i a) (drop j b) (c.after_label_count.ensures a p) (c.after_label_count-2.ensures b q)
    ∙ ap (ordering_then (name_order (drop i a) (drop j b))) c.cmp.ensures
    ∙ sym (order_level a b c.count_labels-left_count.result c.count_labels-right_count.result c.min-shared.result (c.count_labels-left_count.ensures a p) (c.count_labels-right_count.ensures b q) c.min-shared.ensures)

use Rattle.std.proofs.Common.{◌≤◌, length, take, get_or, rules, arith, sym, ap, ◌∙◌}
use Rattle.std.specs.Ordering.{is_le}
use Rattle.std.proofs.Math.Nat.{min-eq_left, min-eq_right, min-le_right}
use Rattle.std.proofs.lemmas.List.{get_or_default}
use Rattle.std.proofs.lemmas.List.Sorted.{IsPartitionPoint-from_clause}
use Rattle.zone_record.specs.Names.{name_order}
use Rattle.zone_rules.proofs.Lookups.{front_parted, front_point, reaches_further}
use Rattle.zone_rules.proofs.sorted.count_up_to.Goals as goal
use Rattle.zone_rules.proofs.sorted.count_up_to.Goals.{then-gallop-test+else-is_le, else-gallop-test}

pub gallop-smaller : goal.gallop-smaller
gallop-smaller g c =
    reaches_further c.gallop.index (length c.args.records.now) c.saturating_mul.result c.saturating_add-index.result c.gallop-test.true (omega (arith, c.well_formed)) c.saturating_mul.ensures c.saturating_add-index.ensures

pub returns-clause-point : goal.returns-clause-point
returns-clause-point g c =
    let name = c.args.name.now in
    let rs = c.args.records.now in
    let few = c.min.result in
    let within : few ≤ length rs = omega (arith, c.min.ensures, min-le_right c.gallop.index (length rs)) in
    front_point name rs few c.partition_point.result c.requires within c.partition_point.ensures.bound
    (λ d lt. elim c.gallop-test.branch [
      | then-gallop-test+else-is_le w ↦
          ap (λ i. is_le (name_order (get_or rs i d).owner name)) (c.min.ensures ∙ min-eq_left (omega (arith, w.gallop-test.true)))
          ∙ ap (λ r. is_le (name_order r.owner name)) (get_or_default rs c.gallop.index d w.index-records-index.result w.gallop-test.true)
          ∙ ap is_le (sym w.order_of.ensures) ∙ sym w.is_le.ensures ∙ w.if-is_le.false
      | else-gallop-test w ↦ absurd (omega (arith, lt, c.min.ensures ∙ min-eq_right w.gallop-test.false))
    ])
    (IsPartitionPoint-from_clause (λ r. is_le (name_order r.owner name)) (take few rs) c.partition_point.result c.partition_point.ensures.partitioned (front_parted name rs few c.requires within) (λ a r q k. search rules))

-- The order of fronts is total.
use Rattle.std.specs.Cmp.{IsEquivalence, IsPartialEquivalence, IsPartialOrder, IsTotalOrder, back_total, eq_by_cmp_equiv, nat_cmp_total, on_total, partial_equiv_from_equiv, partial_order_from_total, then_total}
use Rattle.std.specs.Ordering.{as_partial_cmp}
use Rattle.zone_record.proofs.Orders.{records_total}
use Rattle.zone_record.specs.CanonicalData.{record_key}
use Rattle.zone_set.specs.MergeHeads.{merge_head_order, same_merge_head}
use Rattle.zone_contents.specs.Lookups.{canonical_order}

module _ {N O : Type 0} where
  records_ordered : IsTotalOrder (canonical_order {N = N} {O = O})
  records_ordered = on_total record_key records_total

  pub merge_heads_total : IsTotalOrder (merge_head_order {N = N} {O = O})
  merge_heads_total = back_total (then_total (on_total (λ f. f.record) records_ordered) (on_total (λ f. f.run) nat_cmp_total))

  pub merge_heads_equal : IsEquivalence (same_merge_head {N = N} {O = O})
  merge_heads_equal = eq_by_cmp_equiv merge_heads_total

  pub merge_heads_alike : IsPartialEquivalence (same_merge_head {N = N} {O = O})
  merge_heads_alike = partial_equiv_from_equiv merge_heads_equal

  pub merge_heads_ordered : IsPartialOrder (same_merge_head {N = N} {O = O}) (as_partial_cmp merge_head_order)
  merge_heads_ordered = partial_order_from_total merge_heads_total

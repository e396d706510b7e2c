-- The orders of counts are total.
use Rattle.std.proofs.Common.{◌∙◌, ap, sym, ℕ}
use Rattle.std.specs.Cmp.{IsTotalOrder}
use Rattle.std.specs.Ordering.{nat_cmp, ordering_reverse}
use Rattle.std.proofs.lemmas.Cmp.{nat_cmp_total, nat_list_cmp_total, on_total, then_total}
use Rattle.finding_codes.specs.Code.{code_name}
use Rattle.finding_counts.specs.CodeCounts.{count_order, count_rank, row_order}
use Rattle.finding_counts.specs.declared.code_count.CodeCount.{CodeCount}
use Rattle.finding_counts.specs.declared.code_count.CodeRow.{CodeRow}

-- the greater number first
greater_first : IsTotalOrder (λ (x y : ℕ). nat_cmp y x)
greater_first = record {
  antisymm = λ x y. nat_cmp_total.antisymm y x;
  trans = λ x y z first second. nat_cmp_total.trans z y x second first;
  congr = λ x y z e. nat_cmp_total.antisymm z x ∙ ap ordering_reverse (nat_cmp_total.congr x y z (nat_cmp_total.antisymm x y ∙ ap ordering_reverse e)) ∙ sym (nat_cmp_total.antisymm z y);
}

pub counts_total : IsTotalOrder count_order
counts_total =
    then_total
    (then_total (on_total (λ (c : CodeCount). count_rank c.severity) nat_cmp_total) (on_total (λ (c : CodeCount). c.findings) greater_first))
    (on_total (λ (c : CodeCount). code_name c.code) nat_list_cmp_total)

pub rows_total : {T : Type 0} → IsTotalOrder (row_order {T = T})
rows_total {T} = on_total (λ (r : CodeRow T). r.count) counts_total

use Rattle.std.proofs.Common.{is_lt, rules}
use Rattle.std.proofs.lemmas.List.Sorted.{ranks_by}
use Rattle.std.proofs.lemmas.Fn.{always_returns_same}
use Rattle.std.proofs.lemmas.Result.{on_ok_weaker}
use Rattle.finding_counts.specs.CodeCounts.{row_order}
use Rattle.finding_counts.proofs.CountOrders.{rows_total}
use Rattle.finding_counts.proofs.code_count.sort_rows.Goals as goal

pub returns-clause-stable : goal.returns-clause-stable
returns-clause-stable g c =
    c.sort_by.ensures.stable (λ x y. is_lt (row_order x y)) (ranks_by rows_total (λ r. r)) (always_returns_same _ _ _ (λ a r k called. search rules))

pub returns-clause-sorted : goal.returns-clause-sorted
returns-clause-sorted g c =
    on_ok_weaker c.sort_by.result
    (λ sorted. sorted (λ x y. is_lt (row_order x y)) (ranks_by rows_total (λ r. r)) (always_returns_same _ _ _ (λ a r k called. search rules)))
    c.sort_by.ensures.sorted

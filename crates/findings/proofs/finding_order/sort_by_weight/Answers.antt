use Rattle.std.proofs.Common.{is_lt, rules}
use Rattle.std.proofs.lemmas.List.Sorted.{ranks_by}
use Rattle.std.proofs.lemmas.Fn.{always_returns_same}
use Rattle.std.proofs.lemmas.Result.{on_ok_weaker}
use Rattle.findings.specs.FindingOrder.{kept_weight}
use Rattle.findings.proofs.PlaceOrders.{kept_weights_total}
use Rattle.findings.proofs.finding_order.sort_by_weight.Goals as goal

pub returns-clause-stable : goal.returns-clause-stable
returns-clause-stable g c =
    c.sort_by.ensures.stable (λ x y. is_lt (kept_weight x y)) (ranks_by kept_weights_total (λ r. r)) (always_returns_same _ _ _ (λ a r k called. search rules))

pub returns-clause-sorted : goal.returns-clause-sorted
returns-clause-sorted g c =
    on_ok_weaker c.sort_by.result
    (λ sorted. sorted (λ x y. is_lt (kept_weight x y)) (ranks_by kept_weights_total (λ r. r)) (always_returns_same _ _ _ (λ a r k called. search rules)))
    c.sort_by.ensures.sorted

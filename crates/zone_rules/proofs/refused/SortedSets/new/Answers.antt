use Rattle.std.proofs.Common.{◌≡◌, refl, sym, rules}
use Rattle.std.specs.Ordering.{is_le}
use Rattle.std.proofs.lemmas.Bool.{false≢true}
use Rattle.std.proofs.lemmas.List.Sorted.{answers_always}
use Rattle.zone_rules.specs.Present.{set_order}
use Rattle.zone_rules.proofs.Within.{sets_not_in_order}
use Rattle.zone_rules.proofs.refused.SortedSets.new.Goals as goal

pub invariant_of-result : goal.invariant_of-result
invariant_of-result c = λ k d lt. sym (c.if-not-is_sorted_by.ensures.cases (λ a b. is_le (set_order a b))
    (answers_always _ (λ a r. r ≡ is_le (set_order a.0.now a.1.0.now)) _ (λ f a r q k. search rules)) k d lt)

pub returns-clause-accepts : goal.returns-clause-accepts
returns-clause-accepts c = (λ _. invariant_of-result c, λ _. refl)

pub returns-then-not-is_sorted_by-clause-accepts : goal.returns-then-not-is_sorted_by-clause-accepts
returns-then-not-is_sorted_by-clause-accepts c = (
  λ e. absurd (false≢true e),
  sets_not_in_order c.args.sets.now
      (c.if-not-is_sorted_by.ensures.cases (λ a b. is_le (set_order a b)) (answers_always _ (λ a r. r ≡ is_le (set_order a.0.now a.1.0.now)) _ (λ f a r q k. search rules))),
)

use Rattle.std.proofs.Common.{inl, inr, subst}
use Rattle.zonetext_lib.specs.Comparing.{HasTwoEntries, NeedsMore, CanCompare}
use Rattle.zonetext_lib.specs.Held.{Held}
use Rattle.zonetext_lib.proofs.Counted.{not_both, was_true}
use Rattle.zonetext_lib.proofs.comparer.Comparer.wants_more.Goals as goal

pub returns-in-Ok-clause-enough : goal.returns-in-Ok-clause-enough
returns-in-Ok-clause-enough g c = λ e. subst (λ (h : Held). CanCompare h.octets) c.on-text.ensures (inl (subst HasTwoEntries c.held.ensures.held (c.end_twice.ensures.0 (was_true c.end_twice.result e))))

pub returns-in-Ok-clause-more : goal.returns-in-Ok-clause-more
returns-in-Ok-clause-more g c = λ e.
    let none : HasTwoEntries c.on-text.result.now.octets → ⊥ = subst (λ l. HasTwoEntries l → ⊥) c.held.ensures.held (λ t. not_both c.end_twice.result e (c.end_twice.ensures.1 t)) in
    subst (λ (h : Held). NeedsMore h.octets) c.on-text.ensures (c.in-Ok.ensures.viable, none)

pub returns-in-Err-clause-enough : goal.returns-in-Err-clause-enough
returns-in-Err-clause-enough g c = λ e. let s = c.in-Err.ensures.settled in subst (λ (h : Held). CanCompare h.octets) c.on-text.ensures (inr (s.0, s.1))

use Rattle.std.proofs.Common.{◌≡◌, ◌-◌, ◌∙◌, ap, get_or, arith}
use Rattle.rdata_values.proofs.Trimmed.{front_is_trimmed}
use Rattle.rdata_values.proofs.code_set.used.Goals as goal

pub returns-else-octets-count-eq0-clause-trimmed :
    goal.returns-else-octets-count-eq0-clause-trimmed
returns-else-octets-count-eq0-clause-trimmed c =
    front_is_trimmed c.args.octets.now c.loop-count.count c.loop-count.invariant.0 c.loop-count.invariant.1
    (λ m e z. let at : c.loop-count.count - 1 ≡ m = omega arith in c.if-octets-count-eq0.false (ap (λ k. get_or c.args.octets.now k 0) at ∙ z))

pub returns-after-loop-count-clause-trimmed : goal.returns-after-loop-count-clause-trimmed
returns-after-loop-count-clause-trimmed c =
    front_is_trimmed c.args.octets.now c.loop-count.count c.loop-count.invariant.0 c.loop-count.invariant.1 (λ m e z. omega arith)

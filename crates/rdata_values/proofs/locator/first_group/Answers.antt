use Rattle.std.proofs.Common.{arith}
use Rattle.rdata_values.proofs.GroupLemmas.{group_length}
use Rattle.rdata_values.proofs.locator.first_group.Goals as goal
use Rattle.rdata_values.proofs.locator.first_group.Goals.{then-count-eq0-via-then-count-eq0, then-count-eq0-via-else-count-eq0+then-count-gt4}

pub returns-then-count-eq0 : goal.returns-then-count-eq0
returns-then-count-eq0 c = λ number rest h.
    let count = group_length c.args.text.now rest number c.count_digits-count.result c.count_digits-count.ensures.within c.count_digits-count.ensures.digits c.count_digits-count.ensures.end h in
    elim c.then-count-eq0.branch [
      | then-count-eq0-via-then-count-eq0 w ↦ omega (arith, count, w.if-count-eq0)
      | then-count-eq0-via-else-count-eq0+then-count-gt4 w ↦ omega (arith, count, w.if-count-gt4)
    ]

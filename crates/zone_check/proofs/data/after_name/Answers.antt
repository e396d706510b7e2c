use Rattle.std.proofs.Common.{◌∙◌}
use Rattle.zone_check.proofs.DataSteps.{next_label}
use Rattle.zone_check.proofs.data.after_name.Goals as goal

pub loop-most-preserved : goal.loop-most-preserved
loop-most-preserved c =
    next_label c.loop-most.most c.loop-most.rest.now c.after_count-rest.result.now c.from.result c.loop-most-test.true c.in-len1-up.len_at_least c.if-count-eq0.false c.from.ensures c.after_count-rest.ensures ∙ c.loop-most.invariant

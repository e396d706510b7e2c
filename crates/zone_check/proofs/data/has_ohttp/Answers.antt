use Rattle.std.proofs.Common.{◌∙◌, sym}
use Rattle.zone_check.proofs.DataSteps.{next_parameter, no_parameter}
use Rattle.zone_check.proofs.data.has_ohttp.Goals as goal

pub returns-in_default : goal.returns-in_default
returns-in_default c = sym (no_parameter c.loop-most.most c.loop-most.rest.now c.in_default.len_below) ∙ c.loop-most.invariant

pub loop-most-preserved : goal.loop-most-preserved
loop-most-preserved c =
    next_parameter c.loop-most.most c.loop-most.rest.now c.after_count-rest.result.now c.from.result c.from-in-loop-most.result c.is_ohttp_with.result
    c.loop-most-test.true c.in-len4-up.len_at_least c.from.ensures c.from-in-loop-most.ensures c.is_ohttp_with.ensures c.if-is_ohttp_with.false c.after_count-rest.ensures ∙ c.loop-most.invariant

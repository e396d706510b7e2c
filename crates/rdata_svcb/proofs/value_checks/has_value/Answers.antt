use Rattle.std.proofs.Common.{◌∙◌, sym}
use Rattle.rdata_svcb.proofs.ParamLists.{shorter_param, value_here, value_later, value_nowhere}
use Rattle.rdata_svcb.proofs.value_checks.has_value.Goals as goal

pub loop-front-smaller : goal.loop-front-smaller
loop-front-smaller c = let f = c.in-Some.front in shorter_param c.loop-front.rest.now f.rest.now f.param.value.now f.param.key c.in-Some.ensures.cases.0

pub loop-front-preserved : goal.loop-front-preserved
loop-front-preserved c =
    let f = c.in-Some.front in
    c.loop-front.invariant ∙ value_later c.loop-front.rest.now f.rest.now f.param.value.now f.param.key c.args.key c.in-Some.ensures.cases.0 c.in-Some.ensures.cases.1 c.in-Some.ensures.cases.2 c.if-front-key.false

pub returns-then-front-key : goal.returns-then-front-key
returns-then-front-key c =
    let f = c.in-Some.front in
    sym (c.loop-front.invariant ∙ value_here c.loop-front.rest.now f.rest.now f.param.value.now f.param.key c.args.key c.in-Some.ensures.cases.0 c.in-Some.ensures.cases.1 c.in-Some.ensures.cases.2 c.if-front-key.true)

pub returns : goal.returns
returns c = sym (c.loop-front.invariant ∙ value_nowhere c.loop-front.rest.now c.args.key c.in_default.ensures.list)

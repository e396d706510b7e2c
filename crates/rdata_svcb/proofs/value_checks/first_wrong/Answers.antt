use Rattle.std.proofs.Common.{[], refl, arith}
use Rattle.rdata_svcb.specs.Params.{params_of}
use Rattle.rdata_svcb.proofs.ParamLists.{shorter_param, right_more, wrong_here, all_right}
use Rattle.rdata_svcb.proofs.value_checks.first_wrong.Goals as goal

pub loop-front-init : goal.loop-front-init
loop-front-init c = ([], (λ k d l. absurd (omega arith)), refl)

pub loop-front-smaller : goal.loop-front-smaller
loop-front-smaller c = let f = c.in-Some.front in shorter_param c.loop-front.rest.now f.rest.now f.param.value.now f.param.key c.in-Some.ensures.cases.0

pub loop-front-preserved : goal.loop-front-preserved
loop-front-preserved c =
    let f = c.in-Some.front in let all = params_of c.args.params.now in
    right_more all all c.loop-front.rest.now f.rest.now f.param.value.now f.param.key c.loop-front.invariant c.in-Some.ensures.cases.0 c.in-Some.ensures.cases.1 c.in-Some.ensures.cases.2 c.if-not-is_value.ensures

pub returns-then-not-is_value : goal.returns-then-not-is_value
returns-then-not-is_value c =
    let f = c.in-Some.front in
    wrong_here (params_of c.args.params.now) c.loop-front.rest.now f.rest.now f.param.value.now f.param.key c.loop-front.invariant c.in-Some.ensures.cases.0 c.in-Some.ensures.cases.1 c.in-Some.ensures.cases.2 c.if-not-is_value.ensures

pub returns : goal.returns
returns c = let all = params_of c.args.params.now in all_right all all c.loop-front.rest.now c.loop-front.invariant c.in_default.ensures.list

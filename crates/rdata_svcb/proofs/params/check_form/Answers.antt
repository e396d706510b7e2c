use Rattle.std.proofs.Common.{◌+◌, ℕ, sym, ap, subst, arith, length}
use Rattle.std.proofs.lemmas.Bool.{eqb-true, eqb-false}
use Rattle.rdata_svcb.proofs.Reading.{no_rest}
use Rattle.rdata_svcb.proofs.ParamLists.{ChecksParams, checks_no_params, checks_param, are_params, cut_off, out_of_order, shorter_param}
use Rattle.rdata_svcb.proofs.params.check_form.Goals as goal

pub loop-rest-init : goal.loop-rest-init
loop-rest-init c = checks_no_params c.args.octets.now

pub returns-in_default-clause-err : goal.returns-in_default-clause-err
returns-in_default-clause-err c =
    cut_off c.args.octets.now c.loop-rest.rest.now c.loop-rest.next c.loop-rest.invariant
    (λ e. eqb-false (length c.loop-rest.rest.now) 0 (sym c.loop-rest-test.ensures) (ap length e)) c.in_default.ensures.cases

pub returns-then-key-next-clause-err : goal.returns-then-key-next-clause-err
returns-then-key-next-clause-err c =
    let f = c.in-Some.front in
    out_of_order c.args.octets.now c.loop-rest.rest.now f.param.value.now f.rest.now c.loop-rest.next f.param.key
    c.loop-rest.invariant (omega (arith, c.from-key.ensures)) c.in-Some.ensures.cases.1 c.in-Some.ensures.cases.2 c.in-Some.ensures.cases.0

pub loop-rest-smaller : goal.loop-rest-smaller
loop-rest-smaller c = let f = c.in-Some.front in shorter_param c.loop-rest.rest.now f.rest.now f.param.value.now f.param.key c.in-Some.ensures.cases.0

pub loop-rest-preserved : goal.loop-rest-preserved
loop-rest-preserved c =
    let f = c.in-Some.front in
    let P : ℕ → Type 0 = λ n. ChecksParams c.args.octets.now f.rest.now (n + 1) in
    subst P (sym c.from-key.ensures) (checks_param c.args.octets.now c.loop-rest.rest.now f.rest.now f.param.value.now c.loop-rest.next f.param.key
    c.loop-rest.invariant (omega (arith, c.from-key.ensures)) c.in-Some.ensures.cases.1 c.in-Some.ensures.cases.2 c.in-Some.ensures.cases.0)

pub returns-clause-ok : goal.returns-clause-ok
returns-clause-ok c = are_params c.args.octets.now c.loop-rest.rest.now c.loop-rest.next c.loop-rest.invariant
    (no_rest c.loop-rest.rest.now (eqb-true (length c.loop-rest.rest.now) 0 (sym c.loop-rest-test.ensures)))

use Rattle.rdata_svcb.specs.Params.{params_of}
use Rattle.rdata_svcb.proofs.ParamLists.{not_right}
use Rattle.rdata_svcb.proofs.Templates.{has_fault}
use Rattle.rdata_svcb.proofs.value_checks.check_params.Goals as goal

pub returns-in-Some-clause-fault : goal.returns-in-Some-clause-fault
returns-in-Some-clause-fault c =
    let w = c.in-Some.wrong in has_fault c.args.octets.now w.key w.value.now c.value_fault.result c.in_ok-check_form.ensures.ok c.in-Some.ensures c.value_fault.ensures

pub returns-in-Some-clause-err : goal.returns-in-Some-clause-err
returns-in-Some-clause-err c = λ right. let w = c.in-Some.wrong in not_right w.key w.value.now (params_of c.args.octets.now) c.in-Some.ensures right.1

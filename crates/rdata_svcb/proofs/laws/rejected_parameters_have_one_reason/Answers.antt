use Rattle.rdata_svcb.proofs.ParamReasons.{params_one_reason}
use Rattle.rdata_svcb.proofs.ValueReasons.{values_one_reason}
use Rattle.rdata_svcb.proofs.laws.rejected_parameters_have_one_reason.Goals as goal

pub returns-clause-values : goal.returns-clause-values
returns-clause-values c = values_one_reason

pub returns-clause-params : goal.returns-clause-params
returns-clause-params c = params_one_reason

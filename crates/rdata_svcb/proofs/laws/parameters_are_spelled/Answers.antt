use Rattle.rdata_svcb.proofs.ParamLaws.{all_params_once}
use Rattle.rdata_svcb.proofs.ShownBack.{params_read_back, params_are_words}
use Rattle.rdata_svcb.proofs.laws.parameters_are_spelled.Goals as goal

pub returns : goal.returns
returns c = record { once = all_params_once; back = params_read_back; words = params_are_words }

use Rattle.rdata.proofs.DataForms.{data_are_spelled}
use Rattle.rdata.proofs.RestForms.{rests_are_forms}
use Rattle.rdata.proofs.laws.spelled_data_is_of_its_shape.Goals as goal

pub returns-clause-rests : goal.returns-clause-rests
returns-clause-rests c = rests_are_forms

pub returns-clause-data : goal.returns-clause-data
returns-clause-data c = data_are_spelled

use Rattle.rdata_svcb.proofs.WireItems.{one_list_text}
use Rattle.rdata_svcb.proofs.list_laws.a_text_is_that_of_one_list.Goals as goal

pub returns : goal.returns
returns c = one_list_text

use Rattle.rdata_svcb.proofs.ParamLists.{params_of_wire, read_back}
use Rattle.rdata_svcb.proofs.InOrder.{are_in_order, values_read_back}
use Rattle.rdata_svcb.proofs.list_laws.parameters_are_read_back.Goals as goal

pub returns : goal.returns
returns c = record {
  wire = are_in_order;
  values = values_read_back;
  list = params_of_wire;
  octets = λ octets is. (read_back octets is).wire;
  ascending = λ octets is. (read_back octets is).ascending;
  fitting = λ octets is. (read_back octets is).fitting;
  small = λ octets is. (read_back octets is).small;
}

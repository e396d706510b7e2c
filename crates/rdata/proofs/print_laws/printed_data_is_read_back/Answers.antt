use Rattle.rdata.proofs.PrintedBack.{data_back}
use Rattle.rdata.proofs.Textless.{data_printed_generic}
use Rattle.rdata.proofs.print_laws.printed_data_is_read_back.Goals as goal

pub returns-clause-back : goal.returns-clause-back
returns-clause-back c = λ origin shape octets tokens known is printed. data_back origin known shape octets tokens is printed

pub returns-clause-generic : goal.returns-clause-generic
returns-clause-generic c = data_printed_generic

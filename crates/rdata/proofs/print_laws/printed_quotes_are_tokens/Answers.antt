use Rattle.rdata.proofs.PrintedQuotes.{data_well}
use Rattle.rdata.proofs.print_laws.printed_quotes_are_tokens.Goals as goal

pub returns : goal.returns
returns c = data_well

use Rattle.dns_symbol.proofs.ReadBack.{chars_read_back, index_reads_back}
use Rattle.dns_symbol.proofs.laws.printed_symbol_reads_back.Goals as goal

pub returns-clause-by_chars : goal.returns-clause-by_chars
returns-clause-by_chars c = λ are s t rest q is h. chars_read_back c.args.symbol are s t rest q is h

pub returns-clause-by_index : goal.returns-clause-by_index
returns-clause-by_index c = λ are text rest pos r is h. index_reads_back c.args.symbol are text rest pos r is h

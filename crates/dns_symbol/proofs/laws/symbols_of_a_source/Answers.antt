use Rattle.dns_symbol.proofs.SymbolRuns.{source_symbols}
use Rattle.dns_symbol.proofs.laws.symbols_of_a_source.Goals as goal

pub returns : goal.returns
returns g c = λ symbols left h. source_symbols g.C.Iterator.next_gives c.args.source.now symbols left h

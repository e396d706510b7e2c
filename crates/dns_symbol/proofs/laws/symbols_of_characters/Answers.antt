use Rattle.dns_symbol.proofs.SymbolRuns.{text_symbols}
use Rattle.dns_symbol.proofs.laws.symbols_of_characters.Goals as goal

pub returns : goal.returns
returns c = λ s symbols left is h. text_symbols c.args.text.now s symbols left c.utf8.text is h

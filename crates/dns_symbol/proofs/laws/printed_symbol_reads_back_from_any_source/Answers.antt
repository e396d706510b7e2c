use Rattle.dns_symbol.specs.Symbol.{spell}
use Rattle.dns_symbol.proofs.AnySource.{read_from_any, begins_of, left_after}
use Rattle.dns_symbol.proofs.laws.printed_symbol_reads_back_from_any_source.Goals as goal

pub returns-clause-reads : goal.returns-clause-reads
returns-clause-reads g c = λ are h t q k. read_from_any g.C.Iterator.next_gives c.args.symbol c.args.source.now t q are h k

pub returns-clause-leaves : goal.returns-clause-leaves
returns-clause-leaves g c = λ are rest h t q k.
    let steps = g.C.Iterator.next_gives in let cs = spell c.args.symbol in
    let read = read_from_any steps c.args.symbol c.args.source.now t q are (begins_of steps cs rest c.args.source.now h) k in
    (read.0, left_after steps cs rest c.args.source.now t h read.1)

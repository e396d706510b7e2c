use Rattle.std.proofs.lemmas.Result.{err_from_is_err_and}
use Rattle.dns_symbol.proofs.convert.ConvertSymbols.process_tail.Goals as goal

pub returns-in_err-take_tail-clause-answer : goal.returns-in_err-take_tail-clause-answer
returns-in_err-take_tail-clause-answer g c =
    let p = err_from_is_err_and c.from_residual.result c.from_residual.ensures.1 in
    rw (p.1, p.2) (c.take_tail.new.self, c.in_err-take_tail.ensures)

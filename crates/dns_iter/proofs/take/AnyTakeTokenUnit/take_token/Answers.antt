use Rattle.std.proofs.Common.{inl, inr, refl}
use Rattle.std.proofs.lemmas.Result.{err_from_is_err_and}
use Rattle.dns_iter.proofs.Asking.{asks_within}
use Rattle.dns_iter.proofs.take.AnyTakeTokenUnit.take_token.Goals as goal

pub returns-clause-takes : goal.returns-clause-takes
returns-clause-takes g c =
    inl (c.each_symbol.new.take, asks_within g.E.ScannerError.cause _ _ (λ p. p.0) (λ f x r h k. k) _ _ _ _ c.in_ok-each_symbol.ensures.asks, c.self.ensures)

pub returns-in_err-each_symbol-clause-takes : goal.returns-in_err-each_symbol-clause-takes
returns-in_err-each_symbol-clause-takes g c =
    let p = err_from_is_err_and c.from_residual.result c.from_residual.ensures.1 in
    rw (p.1, p.2) (inr (refl, asks_within g.E.ScannerError.cause _ _ (λ p. p.0) (λ f x r h k. k) _ _ _ _ c.in_err-each_symbol.ensures.asks))

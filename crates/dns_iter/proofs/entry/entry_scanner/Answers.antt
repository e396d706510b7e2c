use Rattle.std.proofs.Common.{map}
use Rattle.std.proofs.Common.{ap}
use Rattle.dns_iter.proofs.Holding.{contents_come}
use Rattle.dns_iter.proofs.entry.entry_scanner.Goals as goal

pub returns-clause-stands : goal.returns-clause-stands
returns-clause-stands g c = λ contents are.
    c.spaced.ensures.stands contents (contents_come (λ s. map g.T.TokenText.text s.tokens.now) _ contents c.new.result (ap (λ l. map g.T.TokenText.text l) c.new.ensures) are)

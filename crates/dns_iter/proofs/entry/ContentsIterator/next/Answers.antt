use Rattle.std.proofs.Common.{ap, map}
use Rattle.dns_iter.proofs.Holding.{content_given}
use Rattle.dns_iter.proofs.entry.ContentsIterator.next.Goals as goal

pub returns-in-Some-clause-steps : goal.returns-in-Some-clause-steps
returns-in-Some-clause-steps g c = (
  g.T.TokenText.text c.in-Some.first.now,
  ap (λ l. map g.T.TokenText.text l) c.in-Some.ensures.cases.0,
  content_given c.text.result.now _ c.content.result.now c.text.ensures (λ w. (c.content.ensures.word w).0) (λ q. (c.content.ensures.quote q).0),
)

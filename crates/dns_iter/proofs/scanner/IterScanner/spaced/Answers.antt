use Rattle.dns_iter.proofs.Sources.{stands_by}
use Rattle.dns_iter.proofs.Sources.{pair_next, stands_at_start}
use Rattle.dns_iter.proofs.scanner.IterScanner.spaced.Goals as goal

pub returns-clause-stands : goal.returns-clause-stands
returns-clause-stands g c = λ ts h.
    stands_by _ (pair_next g.Iter.Iterator.next_gives) (λ s. (s.iter, s.ahead)) (λ s o u k. k.0) _ ts (stands_at_start g.Iter.Iterator.next_gives c.args.iter ts h)

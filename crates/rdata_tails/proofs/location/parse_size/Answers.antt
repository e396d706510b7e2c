use Rattle.std.proofs.Common.{rules, arith, refl, inr}
use Rattle.rdata_tails.proofs.HeightLemmas.{size_few}
use Rattle.rdata_tails.proofs.LocationLemmas.{none_here}
use Rattle.rdata_tails.proofs.location.parse_size.Goals as goal

pub returns-then-is_none-clause-takes : goal.returns-then-is_none-clause-takes
returns-then-is_none-clause-takes g c =
    let none = none_here c.current.result (g.S.TokenSource.left c.args.source.now) c.current.ensures (search rules) in
    inr (none, none, refl)

pub overflow_cast-result : goal.overflow_cast-result
overflow_cast-result g c = let h = c.in_ok-octet.ensures.takes in omega (arith, size_few h.0.text c.in_ok-octet.octet h.3)

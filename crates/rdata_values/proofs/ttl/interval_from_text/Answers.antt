use Rattle.std.proofs.Common.{refl}
use Rattle.rdata_values.proofs.ttl.interval_from_text.Goals as goal

pub returns-in-None : goal.returns-in-None
returns-in-None c = (refl, λ n h. c.in-None.ensures n h.1 h.0)

pub returns-in-Some : goal.returns-in-Some
returns-in-Some c = (c.in-Some.ensures.1, c.in-Some.ensures.0)

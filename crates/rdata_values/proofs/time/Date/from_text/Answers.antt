use Rattle.std.proofs.Common.{refl}
use Rattle.rdata_values.specs.Time.{seconds_at}
use Rattle.rdata_values.proofs.time.Date.from_text.Goals as goal

pub returns-in-None : goal.returns-in-None
returns-in-None c = (refl, λ d h. c.in-None.ensures (seconds_at d) h.1)

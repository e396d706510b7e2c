use Rattle.std.proofs.Common.{arith, refl}
use Rattle.rdata_values.proofs.TtlLaws.{too_many}
use Rattle.rdata_values.proofs.ttl.ttl_from_text.Goals as goal

pub returns-in_default : goal.returns-in_default
returns-in_default c = (refl, λ n h. too_many c.args.text.now c.in-Some.seconds n c.in-Some.ensures.1 (omega (arith, c.if-seconds-le-MOST_TTL.false)) h)

pub returns-in_default-2 : goal.returns-in_default-2
returns-in_default-2 c = (refl, λ n h. c.in_default.ensures n (omega (arith, h.1)) h.0)

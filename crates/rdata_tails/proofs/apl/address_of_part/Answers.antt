use Rattle.std.proofs.Common.{arith, subst}
use Rattle.rdata_tails.specs.Prefixes.{HasAddressPart}
use Rattle.rdata_tails.proofs.ItemLemmas.{not_sixteen}
use Rattle.rdata_tails.proofs.apl.address_of_part.Goals as goal

pub returns-in_default-2 : goal.returns-in_default-2
returns-in_default-2 c = λ a h. not_sixteen c.args.part.now a (omega (arith, c.if-count-le16.false)) (subst (λ f. HasAddressPart f c.args.part.now a) c.in-2.is h)

use Rattle.zone_contents.proofs.Summed.{new_zone}
use Rattle.zone_contents.proofs.stored.ZoneStore.new.Goals as goal

pub invariant_of-result : goal.invariant_of-result
invariant_of-result g c = new_zone c.of.result c.new.result c.none.result c.new.ensures c.none.ensures

pub returns : goal.returns
returns g c = λ i. record { apex = c.of.ensures i; records = c.new.ensures i }

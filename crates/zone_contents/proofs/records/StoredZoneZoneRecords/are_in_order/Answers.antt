use Rattle.std.proofs.Common.{subst}
use Rattle.zone_rules.specs.Zones.{AreInOrder}
use Rattle.zone_contents.specs.Contents.{contents}
use Rattle.zone_contents.proofs.records.StoredZoneZoneRecords.are_in_order.Goals as goal

pub are_in_order-requires : goal.are_in_order-requires
are_in_order-requires g c = c.self.invariant.records_are

pub returns : goal.returns
returns g c = subst (λ z. AreInOrder (contents z)) c.self.view_is c.are_in_order.ensures

use Rattle.std.proofs.Common.{subst}
use Rattle.zone_contents.specs.Contents.{contents}
use Rattle.zone_rules.specs.Searches.{AreOwnedFrom}
use Rattle.zone_contents.proofs.records.StoredZoneZoneRecords.places_near.Goals as goal

pub places-requires : goal.places-requires
places-requires g c = c.self.invariant.records_are

pub returns : goal.returns
returns g c = subst (λ z. AreOwnedFrom c.args.name.now (contents z) c.places.result.0 c.places.result.1) c.self.view_is c.places.ensures.owned

use Rattle.std.proofs.Common.{length, ap, subst, arith}
use Rattle.zone_contents.specs.Contents.{contents}
use Rattle.zone_contents.proofs.Listings.{listed_length}
use Rattle.zone_rules.specs.Searches.{AreOwnedAt}
use Rattle.zone_contents.proofs.records.StoredZoneZoneRecords.places_at.Goals as goal

pub places_at-requires-clause-place : goal.places_at-requires-clause-place
places_at-requires-clause-place g c = omega (arith, c.requires, ap (λ z. length (contents z)) c.self.view_is, listed_length c.self.inside.apex c.self.inside.store)

pub places_at-requires-clause-records : goal.places_at-requires-clause-records
places_at-requires-clause-records g c = c.self.invariant.records_are

pub returns : goal.returns
returns g c = subst (λ z. AreOwnedAt (contents z) c.args.place c.places_at.result.0 c.places_at.result.1) c.self.view_is c.places_at.ensures

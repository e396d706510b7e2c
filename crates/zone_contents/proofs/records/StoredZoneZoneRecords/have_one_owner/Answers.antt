use Rattle.std.proofs.Common.{length, ap, ◌∙◌, arith}
use Rattle.zone_contents.specs.Contents.{contents}
use Rattle.zone_contents.proofs.Listings.{listed_length}
use Rattle.zone_rules.specs.Zones.{is_one_owner}
use Rattle.zone_contents.proofs.records.StoredZoneZoneRecords.have_one_owner.Goals as goal

pub have_one_owner-requires-clause-left : goal.have_one_owner-requires-clause-left
have_one_owner-requires-clause-left g c = omega (arith, c.requires.left, ap (λ z. length (contents z)) c.self.view_is, listed_length c.self.inside.apex c.self.inside.store)

pub have_one_owner-requires-clause-right : goal.have_one_owner-requires-clause-right
have_one_owner-requires-clause-right g c = omega (arith, c.requires.right, ap (λ z. length (contents z)) c.self.view_is, listed_length c.self.inside.apex c.self.inside.store)

pub have_one_owner-requires-clause-are : goal.have_one_owner-requires-clause-are
have_one_owner-requires-clause-are g c = c.self.invariant.records_are.are

pub returns : goal.returns
returns g c = c.have_one_owner.ensures ∙ ap (λ z. is_one_owner (contents z) c.args.left c.args.right) c.self.view_is

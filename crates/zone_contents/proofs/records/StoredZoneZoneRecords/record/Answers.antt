use Rattle.std.proofs.Common.{length, ap, sym, ◌∙◌, arith}
use Rattle.std.specs.Prelude.{Some, slice_get}
use Rattle.std.specs.Option.{option_map}
use Rattle.zone_contents.specs.Contents.{contents}
use Rattle.zone_contents.proofs.Listings.{listed_get, listed_length}
use Rattle.zone_rules.specs.Zones.{as_listed}
use Rattle.zone_contents.proofs.records.StoredZoneZoneRecords.record.Goals as goal

pub record_at-requires-clause-place : goal.record_at-requires-clause-place
record_at-requires-clause-place g c = omega (arith, c.requires, ap (λ z. length (contents z)) c.self.view_is, listed_length c.self.inside.apex c.self.inside.store)

pub record_at-requires-clause-are : goal.record_at-requires-clause-are
record_at-requires-clause-are g c = c.self.invariant.records_are.are

pub returns : goal.returns
returns g c =
    ap Some c.record_at.ensures
    ∙ ap (option_map as_listed)
    (sym (listed_get c.self.inside.apex c.self.inside.store c.args.place (omega (arith, c.requires, ap (λ z. length (contents z)) c.self.view_is, listed_length c.self.inside.apex c.self.inside.store))))
    ∙ ap (λ z. option_map as_listed (slice_get (contents z) c.args.place)) c.self.view_is

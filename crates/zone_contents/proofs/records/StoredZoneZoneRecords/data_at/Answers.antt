use Rattle.std.proofs.Common.{length, ap, sym, ◌∙◌, arith}
use Rattle.std.specs.Prelude.{Some, slice_get}
use Rattle.std.specs.Option.{option_map}
use Rattle.zone_record.specs.Records.{data_of}
use Rattle.zone_contents.specs.Contents.{contents}
use Rattle.zone_contents.proofs.Listings.{listed_get, listed_length}
use Rattle.zone_contents.proofs.records.StoredZoneZoneRecords.data_at.Goals as goal

pub data_at-requires-clause-place : goal.data_at-requires-clause-place
data_at-requires-clause-place g c = omega (arith, c.requires, ap (λ z. length (contents z)) c.self.view_is, listed_length c.self.inside.apex c.self.inside.store)

pub data_at-requires-clause-are : goal.data_at-requires-clause-are
data_at-requires-clause-are g c = c.self.invariant.records_are.are

pub returns : goal.returns
returns g c =
    ap Some c.data_at.ensures
    ∙ ap (option_map data_of)
    (sym (listed_get c.self.inside.apex c.self.inside.store c.args.place (omega (arith, c.requires, ap (λ z. length (contents z)) c.self.view_is, listed_length c.self.inside.apex c.self.inside.store))))
    ∙ ap (λ z. option_map data_of (slice_get (contents z) c.args.place)) c.self.view_is

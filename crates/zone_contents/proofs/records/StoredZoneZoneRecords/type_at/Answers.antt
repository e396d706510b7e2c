use Rattle.std.proofs.Common.{length, ap, sym, ◌∙◌, arith}
use Rattle.std.specs.Prelude.{Some, slice_get}
use Rattle.std.specs.Option.{option_map}
use Rattle.zone_contents.specs.Contents.{contents}
use Rattle.zone_contents.proofs.Listings.{listed_get, listed_length}
use Rattle.zone_rules.specs.Zones.{type_of}
use Rattle.zone_contents.proofs.records.StoredZoneZoneRecords.type_at.Goals as goal

pub rtype-requires : goal.rtype-requires
rtype-requires g c = omega (arith, c.requires, ap (λ z. length (contents z)) c.self.view_is, listed_length c.self.inside.apex c.self.inside.store)

pub returns : goal.returns
returns g c =
    ap Some c.rtype.ensures
    ∙ ap (option_map type_of)
    (sym (listed_get c.self.inside.apex c.self.inside.store c.args.place (omega (arith, c.requires, ap (λ z. length (contents z)) c.self.view_is, listed_length c.self.inside.apex c.self.inside.store))))
    ∙ ap (λ z. option_map type_of (slice_get (contents z) c.args.place)) c.self.view_is

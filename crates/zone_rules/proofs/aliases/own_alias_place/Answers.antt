use Rattle.zone_rules.proofs.OwnRecords.{listed_within, owned_by_it}
use Rattle.zone_rules.proofs.aliases.own_alias_place.Goals as goal

pub places_at-first-requires : goal.places_at-first-requires
places_at-first-requires g c = listed_within (g.Z.ZoneRecords.contents c.args.records.now) c.args.place c.args.record.now c.requires

pub first_alias-requires : goal.first_alias-requires
first_alias-requires g c =
    owned_by_it (g.Z.ZoneRecords.contents c.args.records.now) c.args.place c.args.record.now c.requires c.places_at-first.result.0 c.places_at-first.result.1 c.places_at-first.ensures

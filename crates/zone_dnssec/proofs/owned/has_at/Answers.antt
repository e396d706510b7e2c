use Rattle.std.proofs.Common.{◌∙◌}
use Rattle.zone_dnssec.proofs.OwnedRecords.{has_is}
use Rattle.zone_dnssec.proofs.owned.has_at.Goals as goal

pub returns : goal.returns
returns g c =
    c.is_some.ensures
    ∙ has_is c.args.wanted.now c.args.name.now (g.Z.ZoneRecords.contents c.args.records.now) c.places-first.result.0 c.places-first.result.1 c.places-first.ensures c.find_within.result c.find_within.ensures

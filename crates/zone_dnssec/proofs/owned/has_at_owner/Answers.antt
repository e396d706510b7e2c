use Rattle.std.proofs.Common.{◌∙◌}
use Rattle.zone_dnssec.proofs.OwnedRecords.{has_is}
use Rattle.zone_dnssec.proofs.owned.has_at_owner.Goals as goal

pub returns : goal.returns
returns g c =
    c.is_some.ensures
    ∙ has_is c.args.wanted.now c.args.subject.now.found.owner (g.Z.ZoneRecords.contents c.args.records.now) c.args.subject.now.facts.first c.args.subject.now.facts.past c.requires c.find_within.result c.find_within.ensures

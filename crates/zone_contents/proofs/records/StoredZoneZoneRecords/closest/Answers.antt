use Rattle.std.proofs.Common.{ap, ◌∙◌}
use Rattle.zone_contents.specs.Contents.{contents}
use Rattle.zone_rules.specs.Zones.{closest_owned}
use Rattle.zone_contents.proofs.records.StoredZoneZoneRecords.closest.Goals as goal

pub closest-requires : goal.closest-requires
closest-requires g c = c.self.invariant.records_are

pub returns : goal.returns
returns g c = c.closest.ensures ∙ ap (λ z. closest_owned (contents z) c.args.name.now) c.self.view_is

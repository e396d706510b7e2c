use Rattle.std.proofs.Common.{ap, ◌∙◌}
use Rattle.zone_contents.specs.Contents.{contents}
use Rattle.zone_rules.specs.Present.{rrset_of_record}
use Rattle.zone_rules.specs.Searches.{closest_above_earlier}
use Rattle.zone_contents.proofs.records.StoredZoneZoneRecords.closest_before.Goals as goal

pub closest_before-requires : goal.closest_before-requires
closest_before-requires g c = c.self.invariant.records_are

pub returns : goal.returns
returns g c = c.closest_before.ensures ∙ ap (λ z. closest_above_earlier rrset_of_record (contents z) c.args.name.now) c.self.view_is

use Rattle.std.proofs.Common.{ap, ◌∙◌}
use Rattle.std.specs.List.{list_any}
use Rattle.zone_contents.specs.Contents.{contents}
use Rattle.zone_rules.specs.Above.{is_wildcard}
use Rattle.zone_contents.proofs.records.StoredZoneZoneRecords.has_wildcard.Goals as goal

pub returns : goal.returns
returns g c = c.self.invariant.summary.wildcard ∙ ap (λ z. list_any (λ r. is_wildcard r.owner) (contents z)) c.self.view_is

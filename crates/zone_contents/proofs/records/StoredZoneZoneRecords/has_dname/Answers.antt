use Rattle.std.proofs.Common.{ap, ◌∙◌}
use Rattle.rdata_values.specs.Rtype as Rtype
use Rattle.zone_contents.specs.Contents.{contents}
use Rattle.zone_rules.specs.Zones.{has_type_among}
use Rattle.zone_contents.proofs.records.StoredZoneZoneRecords.has_dname.Goals as goal

pub returns : goal.returns
returns g c = c.self.invariant.summary.dname ∙ ap (λ z. has_type_among Rtype.dname (contents z)) c.self.view_is

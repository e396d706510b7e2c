use Rattle.std.proofs.Common.{ap, ◌∙◌}
use Rattle.zone_contents.specs.Contents.{contents}
use Rattle.zone_contents.proofs.Summed.{class_is}
use Rattle.zone_rules.specs.Zones.{has_type_at}
use Rattle.zone_contents.proofs.records.StoredZoneZoneRecords.has_type.Goals as goal

pub has_type-requires-clause-records : goal.has_type-requires-clause-records
has_type-requires-clause-records g c = c.self.invariant.records_are

pub has_type-requires-clause-class : goal.has_type-requires-clause-class
has_type-requires-clause-class g c = class_is c.self.inside.apex c.self.inside.store c.self.inside.summary c.self.invariant.summary

pub returns : goal.returns
returns g c = c.has_type.ensures ∙ ap (λ z. has_type_at c.args.rtype c.args.name.now (contents z)) c.self.view_is

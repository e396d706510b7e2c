use Rattle.std.proofs.Common.{ap, ◌∙◌}
use Rattle.rdata_values.specs.Rtype as Rtype
use Rattle.zone_contents.specs.Contents.{contents}
use Rattle.zone_contents.proofs.Summed.{class_is}
use Rattle.zone_rules.specs.Zones.{has_type_at}
use Rattle.zone_contents.proofs.records.StoredZoneZoneRecords.host_types_near.Goals as goal

pub host_types-requires-clause-records : goal.host_types-requires-clause-records
host_types-requires-clause-records g c = c.self.invariant.records_are

pub host_types-requires-clause-class : goal.host_types-requires-clause-class
host_types-requires-clause-class g c = class_is c.self.inside.apex c.self.inside.store c.self.inside.summary c.self.invariant.summary

pub host_types-requires-clause-within : goal.host_types-requires-clause-within
host_types-requires-clause-within g c = c.self.invariant.within

pub returns-clause-a : goal.returns-clause-a
returns-clause-a g c = c.host_types.ensures.a ∙ ap (λ z. has_type_at Rtype.a c.args.name.now (contents z)) c.self.view_is

pub returns-clause-aaaa : goal.returns-clause-aaaa
returns-clause-aaaa g c = c.host_types.ensures.aaaa ∙ ap (λ z. has_type_at Rtype.aaaa c.args.name.now (contents z)) c.self.view_is

pub returns-clause-cname : goal.returns-clause-cname
returns-clause-cname g c = c.host_types.ensures.cname ∙ ap (λ z. has_type_at Rtype.cname c.args.name.now (contents z)) c.self.view_is

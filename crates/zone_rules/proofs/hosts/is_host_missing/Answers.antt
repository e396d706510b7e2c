use Rattle.std.proofs.Common.{◌∙◌}
use Rattle.std.specs.Prelude.{◌||◌}
use Rattle.zone_rules.proofs.OwnRecords.{listed_within}
use Rattle.zone_rules.proofs.hosts.is_host_missing.Goals as goal

pub types_of_host-types-requires : goal.types_of_host-types-requires
types_of_host-types-requires g c = listed_within (g.Z.ZoneRecords.contents c.args.records.now) c.args.place c.args.record.now c.requires

pub is_without_address-unserved-requires : goal.is_without_address-unserved-requires
is_without_address-unserved-requires g c = c.has_address-served.ensures ∙ (λ i. c.types_of_host-types.ensures.a i || c.types_of_host-types.ensures.aaaa i)

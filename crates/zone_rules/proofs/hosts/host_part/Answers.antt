use Rattle.std.proofs.Common.{sym, ap, ◌∙◌}
use Rattle.zone_rules.specs.Zones.{host_field}
use Rattle.zone_rules.proofs.FieldNames.{host_named}
use Rattle.zone_rules.proofs.hosts.host_part.Goals as goal

pub name_part-requires : goal.name_part-requires
name_part-requires g c = host_named c.args.«data».now.rtype c.in-Some.field (sym (c.in-Some.ensures ∙ ap host_field c.rtype.ensures))

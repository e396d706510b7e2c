use Rattle.zone_record.proofs.WireNames.{never_refused}
use Rattle.zone_rules.proofs.names.name_of.Goals as goal

pub unreachable-requires : goal.unreachable-requires
unreachable-requires c = never_refused c.args.octets.now c.in-Err.field-0 c.requires c.in-Err.ensures

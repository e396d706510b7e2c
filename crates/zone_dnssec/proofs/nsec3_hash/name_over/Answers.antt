use Rattle.zone_record.proofs.WireNames.{never_refused}
use Rattle.zone_dnssec.proofs.nsec3_hash.name_over.Goals as goal

pub unreachable-requires : goal.unreachable-requires
unreachable-requires c = never_refused c.args.octets.items c.in-Err.field-0 c.requires c.in-Err.ensures

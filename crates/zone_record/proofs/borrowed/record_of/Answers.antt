use Rattle.zone_record.proofs.WireNames.{never_refused}
use Rattle.zone_record.proofs.borrowed.record_of.Goals as goal

pub returns-in_default-clause-none : goal.returns-in_default-clause-none
returns-in_default-clause-none c = λ is typed. never_refused c.args.octets.now.owner.now c.in_default.field-0 is c.in_default.ensures

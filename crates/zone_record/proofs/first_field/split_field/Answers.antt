use Rattle.std.proofs.Common.{refl}
use Rattle.zone_record.proofs.FieldSizes.{first_part}
use Rattle.zone_record.proofs.first_field.split_field.Goals as goal

pub returns-clause-first : goal.returns-clause-first
returns-clause-first c = first_part c.args.octets.now c.after_field-rest.result.now _ _ c.after_field-rest.ensures refl

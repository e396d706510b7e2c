use Rattle.zone_record.specs.Parts.{data_part}
use Rattle.zone_rules.proofs.FieldNames.{field_name}
use Rattle.zone_rules.proofs.HostParts.{named_part}
use Rattle.zone_rules.proofs.host_names.name_part.Goals as goal

pub returns-clause-name : goal.returns-clause-name
returns-clause-name g c =
    let d = c.args.«data».now in
    named_part c.part.result (data_part d c.args.field) c.part.ensures (λ part. field_name d c.args.field part c.requires c.as_slice-octets.ensures.is_data)

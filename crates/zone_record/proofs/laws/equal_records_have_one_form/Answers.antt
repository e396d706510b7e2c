use Rattle.zone_record.proofs.SameForms.{tied_by_form}
use Rattle.zone_record.proofs.laws.equal_records_have_one_form.Goals as goal

pub returns : goal.returns
returns g c = λ ttl. tied_by_form c.args.left.now c.args.right.now c.records_hold_values.ensures c.records_hold_values-2.ensures ttl

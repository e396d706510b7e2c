use Rattle.zone_record.proofs.CanonicalForms.{data_form, data_long}
use Rattle.zone_record.proofs.laws.type_data_has_a_canonical_form.Goals as goal

pub returns-clause-form : goal.returns-clause-form
returns-clause-form c = data_form

pub returns-clause-long : goal.returns-clause-long
returns-clause-long c = data_long

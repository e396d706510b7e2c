use Rattle.rdata_fields.proofs.FieldErrors.{fields_one_error}
use Rattle.rdata_fields.proofs.laws.fields_have_one_error.Goals as goal

pub returns : goal.returns
returns c = fields_one_error

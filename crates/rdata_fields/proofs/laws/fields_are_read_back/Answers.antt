use Rattle.rdata_fields.proofs.FormLaws.{fields_are_forms}
use Rattle.rdata_fields.proofs.laws.fields_are_read_back.Goals as goal

pub returns : goal.returns
returns c = fields_are_forms

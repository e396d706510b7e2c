use Rattle.std.specs.Prelude.{nat_eq}
use Rattle.std.specs.Cmp.{unsigned_Decides}
use Rattle.std.proofs.lemmas.List.Elements.{contains_decides, Decides-contains}
use Rattle.zone_record.specs.FieldForms.{lowered_types}
use Rattle.zone_record.proofs.fields.lowers_names.Goals as goal

pub returns : goal.returns
returns c =
    Decides-contains lowered_types c.args.rtype c.contains.result
    (contains_decides nat_eq unsigned_Decides lowered_types c.args.rtype c.contains.result c.contains.ensures.cases)

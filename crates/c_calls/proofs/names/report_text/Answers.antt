use Rattle.std.proofs.Common.{◌∙◌}
use Rattle.c_calls.proofs.NameText.{given_as}
use Rattle.c_calls.proofs.names.report_text.Goals as goal

pub returns : goal.returns
returns c = given_as _ _ _ _ _ _ (c.as_bytes.ensures.value ∙ c.labels_in-shown.ensures) c.copy_whole.ensures

use Rattle.std.proofs.Common.{rules, ap, ◌∙◌, Ok}
use Rattle.dns_octets.specs.Lowered.{lowered}
use Rattle.dns_name.specs.Uncertain.{is_name_of, labels_of}
use Rattle.zone_record.proofs.LoweredNames.{lowered_labels}
use Rattle.c_calls.proofs.NameText.{given_as}
use Rattle.c_calls.proofs.name_forms.name_canonical.Goals as goal

pub returns-in-Ok : goal.returns-in-Ok
returns-in-Ok c =
    let is = ap lowered c.as_slice.ensures.value ∙ lowered_labels (labels_of c.in-Ok.read) (is_name_of c.in-Ok.read c.as_slice.ensures.holds) in
    record {
      none = search rules;
      some = λ _. (Ok c.in-Ok.read, c.in-Ok.ensures, given_as _ _ _ _ _ _ is c.report_lowered.ensures);
    }

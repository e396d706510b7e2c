use Rattle.std.proofs.Common.{Some, sym, ap, subst, ◌∙◌}
use Rattle.std.specs.Option.{option_map}
use Rattle.rdata_tokens.specs.PrintedNames.{labels_in_octets}
use Rattle.rdata_tokens.proofs.NameLaws.{wire_labels}
use Rattle.zone_rules.specs.HostNames.{IsNameField}
use Rattle.zone_rules.proofs.FieldNames.{mailbox_named}
use Rattle.zone_rules.proofs.host_names.mailbox.Goals as goal

pub name_part-requires : goal.name_part-requires
name_part-requires c = subst (λ t. IsNameField t 1) (sym c.requires) mailbox_named

pub returns-in-Some : goal.returns-in-Some
returns-in-Some c =
    ap Some (sym (wire_labels c.name_of.result) ∙ ap labels_in_octets (sym c.name_of.ensures))
    ∙ ap (option_map labels_in_octets) c.in-Some.ensures.value

use Rattle.std.proofs.Common.{Some, sym, ap, subst, ◌∙◌}
use Rattle.std.specs.Option.{option_map}
use Rattle.rdata_tokens.specs.PrintedNames.{labels_in_octets}
use Rattle.rdata_tokens.proofs.NameLaws.{wire_labels}
use Rattle.zone_rules.specs.HostNames.{IsNameField}
use Rattle.zone_rules.proofs.FieldNames.{alias_named}
use Rattle.zone_rules.proofs.aliases.name_in_alias.Goals as goal

pub name_part-requires : goal.name_part-requires
name_part-requires g c = subst (λ t. IsNameField t 0) (sym c.requires) alias_named

pub returns-in-Some : goal.returns-in-Some
returns-in-Some g c =
    ap Some (sym (wire_labels c.name_of.result) ∙ ap labels_in_octets (sym c.name_of.ensures))
    ∙ ap (option_map labels_in_octets) c.in-Some.ensures.value

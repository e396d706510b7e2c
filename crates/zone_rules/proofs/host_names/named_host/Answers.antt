use Rattle.std.proofs.Common.{Some, sym, ap, ◌∙◌}
use Rattle.std.specs.Prelude.{option_and_then}
use Rattle.std.specs.Option.{option_map}
use Rattle.zone_record.specs.Parts.{data_part}
use Rattle.rdata_tokens.specs.PrintedNames.{labels_in_octets}
use Rattle.rdata_tokens.proofs.NameLaws.{wire_labels}
use Rattle.zone_rules.specs.HostNames.{target_field}
use Rattle.zone_rules.proofs.FieldNames.{target_named}
use Rattle.zone_rules.proofs.host_names.named_host.Goals as goal

pub name_part-requires : goal.name_part-requires
name_part-requires c = target_named c.args.record.now.data.rtype c.in-Some.field (sym (c.in-Some.ensures ∙ ap target_field c.rtype.ensures))

pub returns-in-Some-name_part : goal.returns-in-Some-name_part
returns-in-Some-name_part c =
    ap Some (sym (wire_labels c.name_of.result) ∙ ap labels_in_octets (sym c.name_of.ensures))
    ∙ ap (option_map labels_in_octets) c.in-Some-name_part.ensures.value
    ∙ ap (λ f. option_map labels_in_octets (option_and_then (data_part c.args.record.now.data) f)) (c.in-Some.ensures ∙ ap target_field c.rtype.ensures)

use Rattle.std.proofs.Common.{sym, ap, ◌∙◌}
use Rattle.std.specs.Prelude.{option_and_then}
use Rattle.std.specs.Option.{option_map}
use Rattle.rdata_tokens.specs.PrintedNames.{labels_in_octets}
use Rattle.rdata_tokens.proofs.NameLaws.{wire_labels}
use Rattle.zone_rules.specs.Zones.{but_root}
use Rattle.zone_rules.proofs.hosts.host_in.Goals as goal

pub returns-in-Some : goal.returns-in-Some
returns-in-Some g c =
    c.but_root.ensures ∙ ap but_root (sym (wire_labels c.name_of.result)) ∙ ap (λ o. but_root (labels_in_octets o)) (sym c.name_of.ensures)
    ∙ ap (λ h. option_and_then but_root (option_map labels_in_octets h)) c.in-Some.ensures.value

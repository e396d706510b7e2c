use Rattle.std.proofs.Common.{false, ap, ◌∙◌}
use Rattle.std.specs.Option.{option_map_or}
use Rattle.dns_wire.specs.Order.{same_name}
use Rattle.record_rules.specs.Labels.{name_labels}
use Rattle.record_rules.specs.LoneRules.{ip6_top}
use Rattle.record_rules.proofs.LabelSteps.{ip6_labels}
use Rattle.record_rules.proofs.names.is_ip6_address.Goals as goal

pub returns-in-Some : goal.returns-in-Some
returns-in-Some c =
    c.is_same.ensures
    ∙ ap (same_name (name_labels c.in-Some.rest.now)) ip6_labels
    ∙ ap (λ o. option_map_or (λ rest. same_name rest ip6_top) o false) c.in-Some.ensures

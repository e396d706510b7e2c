use Rattle.std.proofs.Common.{◌∙◌}
use Rattle.record_rules.specs.Labels.{ends_in_name}
use Rattle.record_rules.proofs.LabelSteps.{ip6_labels}
use Rattle.record_rules.proofs.names.is_below_ip6.Goals as goal

pub returns : goal.returns
returns c = c.is_within.ensures ∙ (λ i. ends_in_name (c.parent.ensures i) (ip6_labels i))

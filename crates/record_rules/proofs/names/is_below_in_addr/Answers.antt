use Rattle.std.proofs.Common.{◌∙◌}
use Rattle.record_rules.specs.Labels.{ends_in_name}
use Rattle.record_rules.proofs.LabelSteps.{in_addr_labels}
use Rattle.record_rules.proofs.names.is_below_in_addr.Goals as goal

pub returns : goal.returns
returns c = c.is_within.ensures ∙ (λ i. ends_in_name (c.parent.ensures i) (in_addr_labels i))

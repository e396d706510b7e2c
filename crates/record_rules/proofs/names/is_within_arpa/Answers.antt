use Rattle.std.proofs.Common.{ap, ◌∙◌}
use Rattle.record_rules.specs.Labels.{ends_in_name, name_labels}
use Rattle.record_rules.proofs.LabelSteps.{arpa_labels}
use Rattle.record_rules.proofs.names.is_within_arpa.Goals as goal

pub returns : goal.returns
returns c = c.is_within.ensures ∙ ap (ends_in_name (name_labels c.args.name.now)) arpa_labels

use Rattle.std.proofs.Common.{ap, ◌∙◌}
use Rattle.record_rules.specs.Labels.{is_nibble_label, name_labels}
use Rattle.record_rules.specs.LoneRules.{is_bad_in_tree}
use Rattle.record_rules.proofs.LabelEnds.{end_of_two}
use Rattle.record_rules.proofs.LabelSteps.{ip6_labels}
use Rattle.record_rules.proofs.names.is_bad_in_ip6.Goals as goal

pub is_bad_in_tree-requires : goal.is_bad_in_tree-requires
is_bad_in_tree-requires c = end_of_two _ _ (name_labels c.args.name.now) _ _ ip6_labels c.requires

pub returns : goal.returns
returns c = c.is_bad_in_tree.ensures ∙ ap (λ top. is_bad_in_tree is_nibble_label 32 top (name_labels c.args.name.now)) ip6_labels

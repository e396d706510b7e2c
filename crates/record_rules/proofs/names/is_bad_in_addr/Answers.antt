use Rattle.std.proofs.Common.{ap, ◌∙◌}
use Rattle.record_rules.specs.Labels.{is_octet_label, name_labels}
use Rattle.record_rules.specs.LoneRules.{is_bad_in_tree}
use Rattle.record_rules.proofs.LabelEnds.{end_of_two}
use Rattle.record_rules.proofs.LabelSteps.{in_addr_labels}
use Rattle.record_rules.proofs.names.is_bad_in_addr.Goals as goal

pub is_bad_in_tree-requires : goal.is_bad_in_tree-requires
is_bad_in_tree-requires c = end_of_two _ _ (name_labels c.args.name.now) _ _ in_addr_labels c.requires

pub returns : goal.returns
returns c = c.is_bad_in_tree.ensures ∙ ap (λ top. is_bad_in_tree is_octet_label 4 top (name_labels c.args.name.now)) in_addr_labels

use Rattle.std.proofs.Common.{sym, ◌∙◌}
use Rattle.record_rules.specs.Labels.{name_labels}
use Rattle.record_rules.proofs.LabelEnds.{address_is_not_bad}
use Rattle.record_rules.proofs.names.is_bad_reverse.Goals as goal

pub returns-then-is_ip6_address : goal.returns-then-is_ip6_address
returns-then-is_ip6_address c = sym (address_is_not_bad (name_labels c.args.name.now) (sym c.is_ip6_address.ensures ∙ c.if-is_ip6_address.true))

use Rattle.std.proofs.Common.{sym, ◌∙◌}
use Rattle.record_rules.proofs.Asterisks.{no_asterisk}
use Rattle.record_rules.proofs.names.has_inner_asterisk.Goals as goal

pub returns-then-not-contains : goal.returns-then-not-contains
returns-then-not-contains c = sym (no_asterisk c.args.owner.now (sym c.contains.ensures.value ∙ c.if-not-contains.true))

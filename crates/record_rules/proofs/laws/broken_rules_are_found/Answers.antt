use Rattle.record_rules.proofs.Found.{broken_rules_are_found}
use Rattle.record_rules.proofs.laws.broken_rules_are_found.Goals as goal

pub returns : goal.returns
returns c = broken_rules_are_found c.args._record.now c.args._written

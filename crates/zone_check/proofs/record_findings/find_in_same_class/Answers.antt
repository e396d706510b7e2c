use Rattle.std.proofs.lemmas.Result.{on_ok_weaker}
use Rattle.zone_check.proofs.record_findings.find_in_same_class.Goals as goal

pub returns : goal.returns
returns c = on_ok_weaker c.find_in_rules.result (λ rules. (c.find_in_values.new.found.items, c.in_ok-find_in_values.ensures, rules)) c.find_in_rules.ensures

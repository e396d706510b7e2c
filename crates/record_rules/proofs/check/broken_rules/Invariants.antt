use Rattle.std.proofs.Common.{◌≡◌, ◌≤◌, take}
use Rattle.std.specs.List.{filter}
use Rattle.arrayvec.specs.ArrayVec.{array_vec_len}
use Rattle.record_rules.specs.LoneRules.{breaks_record_rule}
use Rattle.record_rules.proofs.check.broken_rules.Given as goal

abbrev pub invariant-loop-rule : goal.invariant-loop-rule
invariant-loop-rule l =
    (l.found.items ≡ filter (breaks_record_rule l.record l.written) (take l.rule-index l.rules)) × (array_vec_len l.found ≤ l.rule-index)

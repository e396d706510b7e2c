use Rattle.std.proofs.Common.{◌≤◌, length, refl, ap, ◌∙◌, arith}
use Rattle.std.proofs.lemmas.List.{take_all}
use Rattle.std.specs.List.{filter}
use Rattle.record_rules.specs.LoneRules.{breaks_record_rule}
use Rattle.record_rules.proofs.Found.{found_next}
use Rattle.record_rules.proofs.check.broken_rules.Goals as goal

pub loop-rule-preserved : goal.loop-rule-preserved
loop-rule-preserved c = (
  found_next (breaks_record_rule c.args.record.now c.args.written) c.rules_of-rules.result.now c.loop-rule.rule-index _ c.breaks_rule.result c.loop-rule.found.items c.add_if.new.found.items c.loop-rule-test.true c.breaks_rule.ensures c.loop-rule.invariant.0 c.add_if.ensures.items,
  omega (arith, c.add_if.ensures.len, c.loop-rule.invariant.1),
)

pub returns : goal.returns
returns c =
    let rules = c.rules_of-rules.result.now in
    let all : length rules ≤ c.loop-rule.rule-index = omega arith in
    c.loop-rule.invariant.0
    ∙ ap (filter (breaks_record_rule c.args.record.now c.args.written)) (take_all c.loop-rule.rule-index rules all)
    ∙ c.rules_of-rules.ensures.found c.args.written

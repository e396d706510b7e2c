use Rattle.std.proofs.Common.{◌≡◌, ◌++◌, drop, map}
use Rattle.dns_lexer.specs.EntryTokens.{token_seen}
use Rattle.zone_check.specs.RuleFindings.{rule_findings}
use Rattle.zone_check.proofs.rule_findings.append_rules.Given as goal

abbrev pub invariant-loop-rule : goal.invariant-loop-rule
invariant-loop-rule l =
    l.found.items ++ rule_findings l.record.rtype l.record.data.now l.context (map token_seen l.tokens) (map token_seen l.words) (drop l.rule-index l.rules)
    ≡ l.initial.found.items ++ rule_findings l.record.rtype l.record.data.now l.context (map token_seen l.tokens) (map token_seen l.words) l.rules

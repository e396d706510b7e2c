use Rattle.std.proofs.Common.{◌≡◌, drop, map}
use Rattle.dns_lexer.specs.EntryTokens.{token_seen}
use Rattle.zone_check.specs.RuleFindings.{has_quoted}
use Rattle.zone_check.proofs.rule_findings.has_quoted.Given as goal

abbrev pub invariant-loop-word : goal.invariant-loop-word
invariant-loop-word l = has_quoted (map token_seen (drop l.word-index l.words)) ≡ has_quoted (map token_seen l.words)

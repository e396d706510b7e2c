use Rattle.std.proofs.Common.{◌∙◌, sym}
use Rattle.zone_check.proofs.FindingSteps.{directive_by, no_directive}
use Rattle.zone_check.proofs.directive_findings.directive_finding.Goals as goal

pub returns-then-is_empty : goal.returns-then-is_empty
returns-then-is_empty c = no_directive c.args.tokens.now (sym c.is_empty.ensures ∙ c.if-is_empty.true)

pub returns : goal.returns
returns c = directive_by c.args.tokens.now _ c.directive_word.result c.finding_of_word.result (sym c.is_empty.ensures ∙ c.if-is_empty.false) c.directive_word.ensures c.finding_of_word.ensures

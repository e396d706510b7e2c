use Rattle.zone_check.proofs.FindingSteps.{absolute_origin, no_origin_token, relative_origin}
use Rattle.zone_check.proofs.directive_findings.relative_origin_finding.Goals as goal

pub returns-then-tokens-place : goal.returns-then-tokens-place
returns-then-tokens-place c = no_origin_token c.args.tokens.now c.args.place c.if-tokens-place.true

pub returns-then-ends_in_dot : goal.returns-then-ends_in_dot
returns-then-ends_in_dot c = absolute_origin c.args.tokens.now c.args.place _ c.if-tokens-place.false c.ends_in_dot.result c.ends_in_dot.ensures c.if-ends_in_dot.true

pub returns : goal.returns
returns c = relative_origin c.args.tokens.now c.args.place _ c.if-tokens-place.false c.ends_in_dot.result c.ends_in_dot.ensures c.finding_of_token.result c.if-ends_in_dot.false c.finding_of_token.ensures

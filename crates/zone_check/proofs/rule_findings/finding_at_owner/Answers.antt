use Rattle.std.proofs.Common.{[], ◌∙◌, sym}
use Rattle.zone_check.proofs.FindingSteps.{at_owner, at_record, none_if_blank, none_if_empty}
use Rattle.zone_check.proofs.rule_findings.finding_at_owner.Goals as goal

pub returns-then-begins_blank : goal.returns-then-begins_blank
returns-then-begins_blank c =
    at_record c.args.rule c.args.tokens.now [] c.finding_of_entry.result _ c.finding_of_entry.ensures (none_if_blank c.args.begins_blank c.args.tokens.now c.if-begins_blank.true)

pub returns-then-is_empty : goal.returns-then-is_empty
returns-then-is_empty c =
    at_record c.args.rule c.args.tokens.now [] c.finding_of_entry-then-is_empty.result _ c.finding_of_entry-then-is_empty.ensures
    (none_if_empty c.args.begins_blank c.args.tokens.now (sym c.is_empty.ensures ∙ c.if-is_empty.true))

pub returns : goal.returns
returns c =
    at_owner c.args.rule c.args.tokens.now [] c.finding_of_token.result _ c.args.begins_blank c.finding_of_token.ensures c.if-begins_blank.false (sym c.is_empty.ensures ∙ c.if-is_empty.false)

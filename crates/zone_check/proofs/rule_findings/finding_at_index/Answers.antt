use Rattle.std.proofs.Common.{◌∙◌, sym, arith}
use Rattle.zone_check.proofs.FindingSteps.{at_field, at_record, beyond_fields, has_fields, without_fields}
use Rattle.zone_check.proofs.rule_findings.finding_at_index.Goals as goal

pub returns-then-words-index : goal.returns-then-words-index
returns-then-words-index c =
    at_record c.args.rule c.args.tokens.now c.args.words.now c.finding_of_entry.result _ c.finding_of_entry.ensures
    (beyond_fields c.args.words.now c.args.index c.if-words-index.true)

pub returns-then-is_generic_token : goal.returns-then-is_generic_token
returns-then-is_generic_token c =
    let none = has_fields c.args.words.now _ (omega (arith, c.if-words-index.false)) ∙ sym c.is_generic_token.ensures ∙ c.if-is_generic_token.true in
    at_record c.args.rule c.args.tokens.now c.args.words.now c.finding_of_entry-then-is_generic_token.result _ c.finding_of_entry-then-is_generic_token.ensures
    (without_fields c.args.words.now c.args.index none)

pub returns : goal.returns
returns c =
    at_field c.args.rule c.args.tokens.now c.args.words.now c.finding_of_token.result c.args.index _ _ c.finding_of_token.ensures c.if-words-index.false
    (sym c.is_generic_token.ensures ∙ c.if-is_generic_token.false)

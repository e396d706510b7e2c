use Rattle.std.proofs.Common.{arith}
use Rattle.zone_check.proofs.TokenLists.{class_none, class_some}
use Rattle.zone_check.proofs.value_findings.class_finding.Goals as goal

pub returns-then-place-words : goal.returns-then-place-words
returns-then-place-words c =
    class_none c.args.begins_blank c.args.tokens.now c.after_owner-words.result.now c.first_word-place.result c.finding_at.result c.after_owner-words.ensures c.first_word-place.ensures.first c.if-place-words.true c.finding_at.ensures

pub returns : goal.returns
returns c =
    class_some c.args.begins_blank c.args.tokens.now c.after_owner-words.result.now c.first_word-place.result c.finding_of_token.result c.after_owner-words.ensures c.first_word-place.ensures.first _ (omega arith) c.finding_of_token.ensures

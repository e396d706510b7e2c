use Rattle.std.proofs.Common.{◌∙◌, sym}
use Rattle.zone_check.proofs.UnportableSteps.{by_word, no_words}
use Rattle.zone_check.proofs.unportable.unportable_directive.Goals as goal

pub returns-then-is_empty : goal.returns-then-is_empty
returns-then-is_empty c = no_words c.args.is_reported c.args.tokens.now (sym c.is_empty.ensures ∙ c.if-is_empty.true)

pub returns : goal.returns
returns c = by_word c.args.is_reported c.args.tokens.now _ c.directive_word.result c.unportable_in_directive.result (sym c.is_empty.ensures ∙ c.if-is_empty.false) c.directive_word.ensures c.unportable_in_directive.ensures

use Rattle.std.proofs.Common.{sym, ◌∙◌}
use Rattle.zone_generate.proofs.TokenSteps.{data_made, data_refused}
use Rattle.zone_generate.proofs.directive.Generate.with_owner.Goals as goal

pub returns-in-Ok : goal.returns-in-Ok
returns-in-Ok c =
    data_made c.args.range c.args.owner c.args.tokens.now c.words_before_type-count.result c.args.end c.words_before_type-count.ensures.value c.in-Ok.rdata
    (sym c.rdata_parts.ensures ∙ c.in-Ok.is)

pub returns-in-Err : goal.returns-in-Err
returns-in-Err c =
    data_refused c.args.range c.args.owner c.args.tokens.now c.words_before_type-count.result c.args.end c.words_before_type-count.ensures.value c.in-Err.error
    (sym c.rdata_parts.ensures ∙ c.in-Err.is)

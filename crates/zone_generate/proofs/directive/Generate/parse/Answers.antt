use Rattle.std.proofs.Common.{sym, ◌∙◌}
use Rattle.zone_generate.proofs.TokenSteps.{range_refused}
use Rattle.zone_generate.proofs.directive.Generate.parse.Goals as goal

pub returns-in-Err : goal.returns-in-Err
returns-in-Err c = range_refused c.args.most c.args.end c.args.tokens.now _ c.in-Err.error c.if-tokens-lt2.false (sym c.token_range.ensures ∙ c.in-Err.is)

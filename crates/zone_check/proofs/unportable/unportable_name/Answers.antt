use Rattle.zone_check.proofs.UnportableSteps.{no_name, one_name}
use Rattle.zone_check.proofs.unportable.unportable_name.Goals as goal

pub returns-then-tokens-place : goal.returns-then-tokens-place
returns-then-tokens-place c = no_name c.args.is_reported c.args.tokens.now c.args.place c.if-tokens-place.true

pub returns : goal.returns
returns c = one_name c.args.is_reported c.args.tokens.now c.args.place _ c.unportable_word.result c.if-tokens-place.false c.unportable_word.ensures

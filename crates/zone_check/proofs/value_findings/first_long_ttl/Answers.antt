use Rattle.std.proofs.Common.{arith}
use Rattle.zone_check.proofs.TokenLists.{first_long_none, first_long_some}
use Rattle.zone_check.proofs.value_findings.first_long_ttl.Goals as goal

pub returns-then-place-tokens : goal.returns-then-place-tokens
returns-then-place-tokens c = first_long_none c.args.tokens.now c.first_word-place.result c.first_word-place.ensures.first c.if-place-tokens.true

pub returns : goal.returns
returns c = first_long_some c.args.tokens.now c.first_word-place.result _ _ c.first_word-place.ensures.first (omega arith) c.finding_of_token.ensures

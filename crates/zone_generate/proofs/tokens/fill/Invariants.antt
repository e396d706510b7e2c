use Rattle.std.proofs.Common.{length}
use Rattle.zone_generate.proofs.TokenFills.{Fills}
use Rattle.zone_generate.proofs.tokens.fill.Given as goal

abbrev pub invariant-tokens : goal.invariant-tokens
invariant-tokens l = Fills l.initial.source l.source l.tokens l.count

abbrev pub decreases-tokens : goal.decreases-tokens
decreases-tokens l = length l.source

use Rattle.std.proofs.Common.{◌≡◌, map, drop}
use Rattle.dns_lexer.specs.EntryTokens.{token_seen}
use Rattle.zone_generate.specs.Tokens.{directive_end}
use Rattle.zone_generate.proofs.tokens.directive_end.Given as goal

abbrev pub invariant-loop-token : goal.invariant-loop-token
invariant-loop-token l = directive_end 0 (map token_seen l.tokens) ≡ directive_end l.end (map token_seen (drop l.token-index l.tokens))

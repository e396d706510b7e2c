use Rattle.std.proofs.Common.{◌≡◌, length}
use Rattle.zone_reader.proofs.entry.skip_tokens.Given as goal

abbrev pub invariant-tokens : goal.invariant-tokens
invariant-tokens g l = g.S.TokenSource.end l.source ≡ g.S.TokenSource.end l.fn.source

abbrev pub decreases-tokens : goal.decreases-tokens
decreases-tokens g l = length (g.S.TokenSource.left l.source)

use Rattle.std.proofs.Common.{◌≡◌, ◌==◌, drop, map}
use Rattle.std.specs.List.{find}
use Rattle.dns_lexer.specs.EntryTokens.{token_seen}
use Rattle.zone_check.proofs.rejection_findings.rejected_finding.Given as goal

abbrev pub invariant-loop-token : goal.invariant-loop-token
invariant-loop-token l = find (λ t. t.at == l.at) (map token_seen (drop l.token-index l.tokens)) ≡ find (λ t. t.at == l.at) (map token_seen l.tokens)

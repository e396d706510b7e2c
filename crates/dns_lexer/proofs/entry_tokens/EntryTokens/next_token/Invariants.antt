use Rattle.std.proofs.Common.{◌≡◌, length}
use Rattle.dns_lexer.specs.EntryTokens.{seen_from, IsOffsetAtDepth}
use Rattle.dns_lexer.specs.CursorStates.{ahead}
use Rattle.dns_lexer.proofs.entry_tokens.EntryTokens.next_token.Given as goal

abbrev pub invariant-pieces : goal.invariant-pieces
invariant-pieces l = record {
  same : l.self-inside.octets ≡ l.initial.self-inside.octets;
  stands : IsOffsetAtDepth l.self-inside.octets.now l.self-inside.standing;
  seen : seen_from l.self-inside.octets.now l.self-inside.standing.began l.self-inside.ended (ahead l.self-inside.octets.now l.self-inside.standing)
      ≡ seen_from l.initial.self-inside.octets.now l.initial.self-inside.standing.began l.initial.self-inside.ended (ahead l.initial.self-inside.octets.now l.initial.self-inside.standing);
}

abbrev pub decreases-pieces : goal.decreases-pieces
decreases-pieces l = length (ahead l.self-inside.octets.now l.self-inside.standing)

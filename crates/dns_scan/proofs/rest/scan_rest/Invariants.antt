use Rattle.std.proofs.Common.{◌≡◌, List, length}
use Rattle.dns_scan.specs.Reads.{ReadsSome}
use Rattle.dns_scan.specs.Unread.{HasTokens}
use Rattle.dns_scan.specs.Tokens.{Token}
use Rattle.dns_scan.proofs.rest.scan_rest.Given as goal

-- one value a turn, parsed from the tokens before those that remain
abbrev pub invariant-loop-turn : goal.invariant-loop-turn
invariant-loop-turn g l = record {
  ready : g.S.Scanner.can_scan l.scanner;
  counted : length l.values.items ≡ l._turn;
  reads : (tokens : List Token) → HasTokens g.S.Scanner.next_token l.fn.scanner tokens
      → (middle : List Token) × ReadsSome g.T.Scan.scan_reads tokens l.values.items middle × HasTokens g.S.Scanner.next_token l.scanner middle;
}

use Rattle.std.proofs.Common.{List, Option, drop}
use Rattle.std.specs.List.{FoldsTo}
use Rattle.dns_symbol.specs.Cause.{Cause}
use Rattle.dns_scan.specs.Kinds.{KindReads}
use Rattle.dns_scan.specs.Reads.{ReadsInTurn}
use Rattle.dns_scan.specs.Unread.{HasTokens}
use Rattle.dns_scan.specs.Tokens.{Token}
use Rattle.dns_scan.proofs.laws.kinds_in_turn.Given as goal

-- the readings that are still to come, after those that were, are all
abbrev pub invariant-loop-kind : goal.invariant-loop-kind
invariant-loop-kind g l = record {
  ready : g.S.Scanner.can_scan l.scanner;
  callable : goal.F-IsAlwaysCallable g l.give;
  reads : (tokens : List Token) → HasTokens g.S.Scanner.next_token l.fn.scanner tokens
      → (now : List Token) × HasTokens g.S.Scanner.next_token l.scanner now
      × ((values : _) (refusal : Option Cause) (rest : List Token) (last : _) → ReadsInTurn (KindReads g.T.Scan.scan_reads) (drop l.kind-index l.kinds) now values refusal rest
      → FoldsTo (λ f v h. goal.F-step g f v tt h) l.give values last
      → (all : _) × ReadsInTurn (KindReads g.T.Scan.scan_reads) l.kinds tokens all refusal rest × FoldsTo (λ f v h. goal.F-step g f v tt h) l.fn.give all last);
}

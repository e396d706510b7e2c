use Rattle.std.proofs.Common.{drop}
use Rattle.dns_scan.specs.Unread.{HasTokens}
use Rattle.dnstext_lib.specs.Program.{LinesWritten, bytes_of_words}
use Rattle.dnstext_lib.proofs.program.print_values.Given as goal

-- the lines of the tokens that remain, after those that are written, are all
abbrev pub invariant-loop-token : goal.invariant-loop-token
invariant-loop-token g l = record {
  ready : g.S.Scanner.can_scan l.scanner;
  stands : HasTokens g.S.Scanner.next_token l.scanner (bytes_of_words (drop l._token-index l.tokens));
  lines : (r : _) (p : _) → LinesWritten g.S.Error.ScannerError.cause g.O.Write.write_str_gives l.kind (bytes_of_words (drop l._token-index l.tokens)) l.out r p
      → LinesWritten g.S.Error.ScannerError.cause g.O.Write.write_str_gives l.kind (bytes_of_words l.tokens) l.fn.out r p;
}

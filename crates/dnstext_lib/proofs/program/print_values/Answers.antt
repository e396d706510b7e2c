use Rattle.std.proofs.Common.{subst, sym, ap, Ok, Err}
use Rattle.std.proofs.lemmas.Result.{err_from_is_err_and}
use Rattle.dns_scan.specs.Unread.{HasTokens}
use Rattle.dnstext_lib.specs.Program.{LinesWritten, bytes_of_words}
use Rattle.dnstext_lib.proofs.Printing.{drop_at, drop_all, lines_more, lines_none, lines_stop}
use Rattle.dnstext_lib.proofs.program.print_values.Goals as goal

pub returns-in_err-print_value : goal.returns-in_err-print_value
returns-in_err-print_value g c =
    let at = drop_at c.args.tokens.now c.loop-token._token-index c.loop-token-test.true in
    let first = ap bytes_of_words at.1 in
    let stands = subst (λ ts. HasTokens g.S.Scanner.next_token c.loop-token.scanner ts) first c.loop-token.invariant.stands in
    let stop = c.in_err-print_value.field-0.0 in
    let p = err_from_is_err_and c.from_residual.result c.from_residual.ensures.1 in
    rw (p.1, p.2)
    (c.loop-token.invariant.lines (Err stop) c.print_value.new.out
    (subst (λ ts. LinesWritten g.S.Error.ScannerError.cause g.O.Write.write_str_gives c.args.kind ts c.loop-token.out (Err stop) c.print_value.new.out) (sym first)
    (lines_stop g.S.Error.ScannerError.cause g.O.Write.write_str_gives c.args.kind _ _ _ _ stop (c.in_err-print_value.ensures.line _ _ stands))))

pub loop-token-preserved : goal.loop-token-preserved
loop-token-preserved g c =
    let at = drop_at c.args.tokens.now c.loop-token._token-index c.loop-token-test.true in
    let first = ap bytes_of_words at.1 in
    let stands = subst (λ ts. HasTokens g.S.Scanner.next_token c.loop-token.scanner ts) first c.loop-token.invariant.stands in
    record {
      ready = c.print_value.ensures.ready;
      stands = c.print_value.ensures.rest _ _ stands;
      lines = λ r p more. c.loop-token.invariant.lines r p
          (subst (λ ts. LinesWritten g.S.Error.ScannerError.cause g.O.Write.write_str_gives c.args.kind ts c.loop-token.out r p) (sym first)
          (lines_more g.S.Error.ScannerError.cause g.O.Write.write_str_gives c.args.kind _ _ _ c.print_value.new.out p r (c.in_ok-print_value.ensures.line _ _ stands) more));
    }

pub returns : goal.returns
returns g c =
    let none = ap bytes_of_words (drop_all c.args.tokens.now c.loop-token._token-index c.loop-token-test.false) in
    c.loop-token.invariant.lines (Ok tt) c.loop-token.out
    (subst (λ ts. LinesWritten g.S.Error.ScannerError.cause g.O.Write.write_str_gives c.args.kind ts c.loop-token.out (Ok tt) c.loop-token.out) (sym none)
    (lines_none g.S.Error.ScannerError.cause g.O.Write.write_str_gives c.args.kind c.loop-token.out))

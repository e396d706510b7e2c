use Rattle.std.proofs.Common.{◌≡◌, ◌+◌, [], ◌∷◌, length, refl, sym, ap, ◌∙◌, arith, subst, inl, inr, Ok}
use Rattle.std.proofs.lemmas.Result.{err_from_is_err_and}
use Rattle.std.proofs.lemmas.List.{length-append}
use Rattle.std.specs.Prelude.{◌≢◌}
use Rattle.dns_scan.specs.Reads.{ReadsSome}
use Rattle.dns_scan.specs.Unread.{HasTokens}
use Rattle.dns_scan.proofs.TokensLeft.{peeked_some, peeked_none, some_more, ends_with_one, none_refused, rest_of_none}
use Rattle.dns_scan.proofs.rest.scan_rest.Goals as goal

pub returns-then-not-continues-clause-reads : goal.returns-then-not-continues-clause-reads
returns-then-not-continues-clause-reads g c = λ tokens stands.
    let at = c.loop-turn.invariant.reads tokens stands in
    let peek = c.if-not-continues.ensures.peeks in
    let left = peeked_none g.S.Scanner.next_token _ _ peek.0 at.0 at.2 peek.1 peek.2 in
    ([], (subst (λ m. ReadsSome g.T.Scan.scan_reads tokens c.loop-turn.values.items m) left.0 at.1, refl), subst (λ m. HasTokens g.S.Scanner.next_token c.continues.new.self m) left.0 left.1)

pub returns-in-Err-clause-reads : goal.returns-in-Err-clause-reads
returns-in-Err-clause-reads g c = λ tokens stands.
    let at = c.loop-turn.invariant.reads tokens stands in
    let peek = c.if-not-continues.ensures.peeks in
    let left = peeked_some g.S.Scanner.next_token _ _ peek.0 at.0 at.2 peek.1 peek.2 in
    let took = c.in_ok-scan.ensures.reads at.0 left.1 in
    let more = some_more g.T.Scan.scan_reads tokens c.loop-turn.values.items at.0 took.0 c.in_ok-scan.field-0 at.1 left.0 took.1 in
    (took.0, (_, took.0, more, inr (ends_with_one c.loop-turn.values.items c.in_ok-scan.field-0, c.short_buf.ensures, refl)), took.2)

pub returns-in_err-scan-clause-reads : goal.returns-in_err-scan-clause-reads
returns-in_err-scan-clause-reads g c = λ tokens stands.
    let p = err_from_is_err_and c.from_residual.result c.from_residual.ensures.1 in
    let at = c.loop-turn.invariant.reads tokens stands in
    let peek = c.if-not-continues.ensures.peeks in
    let left = peeked_some g.S.Scanner.next_token _ _ peek.0 at.0 at.2 peek.1 peek.2 in
    let took = c.in_err-scan.ensures.reads at.0 left.1 in
    rw (p.1, p.2) (took.0, (c.loop-turn.values.items, at.0, at.1, inl (left.0, took.1)), took.2)

pub loop-turn-preserved : goal.loop-turn-preserved
loop-turn-preserved g c = record {
  ready = c.in_ok-scan.ensures.ready;
  counted = ap length c.in-Ok.ensures.items ∙ length-append c.loop-turn.values.items (c.in_ok-scan.field-0 ∷ []) ∙ ap (λ n. n + 1) c.loop-turn.invariant.counted;
  reads = λ tokens stands.
      let at = c.loop-turn.invariant.reads tokens stands in
      let peek = c.if-not-continues.ensures.peeks in
      let left = peeked_some g.S.Scanner.next_token _ _ peek.0 at.0 at.2 peek.1 peek.2 in
      let took = c.in_ok-scan.ensures.reads at.0 left.1 in
      let more = some_more g.T.Scan.scan_reads tokens c.loop-turn.values.items at.0 took.0 c.in_ok-scan.field-0 at.1 left.0 took.1 in
      (took.0, subst (λ l. ReadsSome g.T.Scan.scan_reads tokens l took.0) (sym c.in-Ok.ensures.items) more, took.2);
}

pub returns-clause-reads : goal.returns-clause-reads
returns-clause-reads g c = λ tokens stands.
    let at = c.loop-turn.invariant.reads tokens stands in
    let some : c.loop-turn.values.items ≢ [] = λ none. let z : c.loop-turn._turn ≡ 0 = sym c.loop-turn.invariant.counted ∙ ap length none in omega arith in
    (at.0, (c.loop-turn.values.items, at.0, at.1, inr (some, c.short_buf-2.ensures, refl)), at.2)

pub returns-then-not-continues-clause-none : goal.returns-then-not-continues-clause-none
returns-then-not-continues-clause-none g c = λ stands.
    let read = returns-then-not-continues-clause-reads g c [] stands in
    rest_of_none g.T.Scan.scan_reads g.S.Error.ScannerError.cause (Ok c.loop-turn.values) read.0 read.1

pub returns-in-Err-clause-none : goal.returns-in-Err-clause-none
returns-in-Err-clause-none g c = λ stands. let read = returns-in-Err-clause-reads g c [] stands in none_refused g.T.Scan.scan_reads _ read.0 read.1

pub returns-in_err-scan-clause-none : goal.returns-in_err-scan-clause-none
returns-in_err-scan-clause-none g c = λ stands.
    let read = returns-in_err-scan-clause-reads g c [] stands in
    rest_of_none g.T.Scan.scan_reads g.S.Error.ScannerError.cause c.from_residual.result read.0 read.1

pub returns-clause-none : goal.returns-clause-none
returns-clause-none g c = λ stands. let read = returns-clause-reads g c [] stands in none_refused g.T.Scan.scan_reads _ read.0 read.1

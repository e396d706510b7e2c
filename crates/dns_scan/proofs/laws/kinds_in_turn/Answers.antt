use Rattle.std.proofs.Common.{[], ◌∷◌, refl, arith, of_calls, Some, None}
use Rattle.std.proofs.lemmas.List.{drop_all}
use Rattle.std.proofs.lemmas.Result.{err_from_is_err_and}
use Rattle.dns_scan.specs.declared.kind.Kind.TheVariants.{U8}
use Rattle.dns_scan.specs.Kinds.{KindReads}
use Rattle.dns_scan.proofs.Reading.{turn_more, turn_stop, turn_end, next_at}
use Rattle.dns_scan.proofs.laws.kinds_in_turn.Goals as goal

pub returns-in_err-scan-clause-reads : goal.returns-in_err-scan-clause-reads
returns-in_err-scan-clause-reads g c = λ tokens stands.
    let p = err_from_is_err_and c.from_residual.result c.from_residual.ensures.1 in
    let at = c.loop-kind.invariant.reads tokens stands in
    let took = c.in_err-scan.ensures.reads at.0 at.1 in
    let left = next_at c.args.kinds.now c.loop-kind.kind-index U8 c.loop-kind-test.true in
    let all = at.2 [] (Some (g.S.Error.ScannerError.cause c.in_err-scan.field-0.0)) took.0 c.loop-kind.give
    (turn_stop (KindReads g.T.Scan.scan_reads) _ _ _ left at.0 took.0 _ took.1) refl in
    rw (p.1, p.2) (all.0, Some (g.S.Error.ScannerError.cause c.in_err-scan.field-0.0), took.0, all.1, all.2, took.2, refl)

pub loop-kind-preserved : goal.loop-kind-preserved
loop-kind-preserved g c = record {
  ready = c.in_ok-scan.ensures.ready;
  callable = search of_calls;
  reads = λ tokens stands.
      let at = c.loop-kind.invariant.reads tokens stands in
      let took = c.in_ok-scan.ensures.reads at.0 at.1 in
      let left = next_at c.args.kinds.now c.loop-kind.kind-index U8 c.loop-kind-test.true in (
        took.0,
        took.2,
        λ values refusal rest last more folds. at.2 (c.in_ok-scan.field-0 ∷ values) refusal rest last
            (turn_more (KindReads g.T.Scan.scan_reads) _ _ _ left at.0 took.0 rest c.in_ok-scan.field-0 values refusal took.1 more)
            (c.call_mut.new.self, c.call_mut.ensures, folds),
      );
}

pub returns-clause-reads : goal.returns-clause-reads
returns-clause-reads g c = λ tokens stands.
    let at = c.loop-kind.invariant.reads tokens stands in
    let none = drop_all c.loop-kind.kind-index c.args.kinds.now (omega (arith, c.loop-kind-test.false)) in
    let all = at.2 [] None at.0 c.loop-kind.give (turn_end (KindReads g.T.Scan.scan_reads) _ none at.0) refl in
    (all.0, None, at.0, all.1, all.2, at.1, refl)

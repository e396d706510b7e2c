use Rattle.std.proofs.Common.{suc, ◌≡◌, ◌-◌, ◌+◌, [], ◌∷◌, refl, arith, of_calls, Some, None}
use Rattle.std.proofs.lemmas.Result.{err_from_is_err_and}
use Rattle.dns_scan.proofs.Reading.{each_more, each_stop, each_end}
use Rattle.dns_scan.proofs.laws.scans_in_turn.Goals as goal

pub returns-in_err-scan-clause-reads : goal.returns-in_err-scan-clause-reads
returns-in_err-scan-clause-reads g c = λ tokens stands.
    let p = err_from_is_err_and c.from_residual.result c.from_residual.ensures.1 in
    let at = c.loop-turn.invariant.reads tokens stands in
    let took = c.in_err-scan.ensures.reads at.0 at.1 in
    let left : c.args.count - c.loop-turn._turn ≡ suc (c.args.count - (c.loop-turn._turn + 1)) = omega arith in
    let all = at.2 [] (Some (g.S.Error.ScannerError.cause c.in_err-scan.field-0.0)) took.0 c.loop-turn.give
    (each_stop g.T.Scan.scan_reads _ _ left at.0 took.0 _ took.1) refl in
    rw (p.1, p.2) (all.0, Some (g.S.Error.ScannerError.cause c.in_err-scan.field-0.0), took.0, all.1, all.2, took.2, refl)

pub loop-turn-preserved : goal.loop-turn-preserved
loop-turn-preserved g c = record {
  ready = c.in_ok-scan.ensures.ready;
  callable = search of_calls;
  reads = λ tokens stands.
      let at = c.loop-turn.invariant.reads tokens stands in
      let took = c.in_ok-scan.ensures.reads at.0 at.1 in
      let left : c.args.count - c.loop-turn._turn ≡ suc (c.args.count - (c.loop-turn._turn + 1)) = omega arith in (
        took.0,
        took.2,
        λ values refusal rest last more folds. at.2 (c.in_ok-scan.field-0 ∷ values) refusal rest last
            (each_more g.T.Scan.scan_reads _ _ left at.0 took.0 rest c.in_ok-scan.field-0 values refusal took.1 more)
            (c.call_mut.new.self, c.call_mut.ensures, folds),
      );
}

pub returns-clause-reads : goal.returns-clause-reads
returns-clause-reads g c = λ tokens stands.
    let at = c.loop-turn.invariant.reads tokens stands in
    let left : c.args.count - c.loop-turn._turn ≡ 0 = omega arith in
    let all = at.2 [] None at.0 c.loop-turn.give (each_end g.T.Scan.scan_reads _ left at.0) refl in
    (all.0, None, at.0, all.1, all.2, at.1, refl)

use Rattle.std.proofs.Common.{[], ◌∷◌, arith}
use Rattle.std.proofs.lemmas.Result.{err_from_is_err_and}
use Rattle.rdata_tokens.proofs.Spellings.{has_bad_escape}
use Rattle.rdata_tokens.proofs.Fronts.{run_front, front_length, appended_more, exceeds_front}
use Rattle.rdata_tokens.proofs.spelled.append_spelled.Goals as goal

pub returns-in_err-append_slice-clause-err : goal.returns-in_err-append_slice-clause-err
returns-in_err-append_slice-clause-err g c =
    let p = err_from_is_err_and c.from_residual.result c.from_residual.ensures.1 in
    let i = c.loop-rest.invariant in
    let run = run_front c.loop-rest.rest.now c.plain_count-count.result c.plain_count-count.ensures.plain c.plain_count-count.ensures.within in
    rw (p.1, p.2) (exceeds_front g.B.OctetsBuilder.room c.args.text.now _ i.0 c.loop-rest.rest.now _ _ _ i.1 i.2 run c.in_err-append_slice.ensures.fits)

pub loop-rest-preserved-then-count-gt0 : goal.loop-rest-preserved-then-count-gt0
loop-rest-preserved-then-count-gt0 g c =
    let i = c.loop-rest.invariant in
    let run = run_front c.loop-rest.rest.now c.plain_count-count.result c.plain_count-count.ensures.plain c.plain_count-count.ensures.within in
    appended_more c.args.text.now _ i.0 c.loop-rest.rest.now _ _ _ _ i.1 i.2 run c.in_ok-append_slice.ensures.ok

pub returns-in_err-first-clause-err : goal.returns-in_err-first-clause-err
returns-in_err-first-clause-err g c =
    let p = err_from_is_err_and c.from_residual-in_err-first.result c.from_residual-in_err-first.ensures.1 in
    let bad = c.in_err-first.ensures in
    let i = c.loop-rest.invariant in
    rw (p.1, p.2, bad.0) (has_bad_escape c.args.text.now i.0 c.loop-rest.rest.now i.1 bad.1)

pub returns-in_err-append_slice-2-clause-err : goal.returns-in_err-append_slice-2-clause-err
returns-in_err-append_slice-2-clause-err g c =
    let p = err_from_is_err_and c.from_residual-in_err-append_slice-2.result c.from_residual-in_err-append_slice-2.ensures.1 in
    let i = c.loop-rest.invariant in
    rw (p.1, p.2) (exceeds_front g.B.OctetsBuilder.room c.args.text.now _ i.0 c.loop-rest.rest.now (c.in_ok-first.first.octet ∷ []) c.in_ok-first.first.rest.now _ i.1 i.2 c.in_ok-first.ensures c.in_err-append_slice-2.ensures.fits)

pub loop-rest-smaller : goal.loop-rest-smaller
loop-rest-smaller g c =
    let k = c.in_ok-first.ensures in omega (arith, front_length c.loop-rest.rest.now (c.in_ok-first.first.octet ∷ []) c.in_ok-first.first.rest.now k)

pub loop-rest-preserved : goal.loop-rest-preserved
loop-rest-preserved g c =
    let i = c.loop-rest.invariant in
    appended_more c.args.text.now _ i.0 c.loop-rest.rest.now (c.in_ok-first.first.octet ∷ []) c.in_ok-first.first.rest.now _ _ i.1 i.2 c.in_ok-first.ensures c.in_ok-append_slice-2.ensures.ok

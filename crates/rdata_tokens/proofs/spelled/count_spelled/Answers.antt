use Rattle.std.proofs.Common.{[], ◌∷◌, arith}
use Rattle.std.proofs.lemmas.Result.{err_from_is_err_and}
use Rattle.rdata_tokens.proofs.Spellings.{has_bad_escape}
use Rattle.rdata_tokens.proofs.Fronts.{front_length, count_more}
use Rattle.rdata_tokens.proofs.spelled.count_spelled.Goals as goal

pub returns-in_err-first : goal.returns-in_err-first
returns-in_err-first c =
    let p = err_from_is_err_and c.from_residual.result c.from_residual.ensures.1 in
    let bad = c.in_err-first.ensures in
    rw (p.1, p.2) (bad.0, has_bad_escape c.args.text.now c.loop-rest.invariant.0 c.loop-rest.rest.now c.loop-rest.invariant.1 bad.1)

pub loop-rest-smaller : goal.loop-rest-smaller
loop-rest-smaller c =
    let k = c.in_ok-first.ensures in omega (arith, front_length c.loop-rest.rest.now (c.in_ok-first.first.octet ∷ []) c.in_ok-first.first.rest.now k)

pub loop-rest-preserved : goal.loop-rest-preserved
loop-rest-preserved c =
    let i = c.loop-rest.invariant in
    count_more c.args.text.now i.0 c.loop-rest.rest.now c.in_ok-first.first.rest.now c.in_ok-first.first.octet c.loop-rest.count i.1 c.in_ok-first.ensures i.2 i.3

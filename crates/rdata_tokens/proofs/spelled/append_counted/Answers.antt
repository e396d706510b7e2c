use Rattle.std.proofs.Common.{refl, inr}
use Rattle.std.proofs.lemmas.Result.{err_from_is_err_and}
use Rattle.rdata_tokens.proofs.Fronts.{exceeds_count, refused_counted}
use Rattle.rdata_tokens.proofs.spelled.append_counted.Goals as goal

pub returns-in_err-append_slice-clause-err : goal.returns-in_err-append_slice-clause-err
returns-in_err-append_slice-clause-err g c =
    let p = err_from_is_err_and c.from_residual.result c.from_residual.ensures.1 in
    rw (p.1, p.2) (inr (refl, exceeds_count g.B.OctetsBuilder.room c.args.count c.args.text.now _ c.in_err-append_slice.ensures.fits))

pub returns-in_err-append_spelled-clause-err : goal.returns-in_err-append_spelled-clause-err
returns-in_err-append_spelled-clause-err g c =
    let p = err_from_is_err_and c.from_residual-in_err-append_spelled.result c.from_residual-in_err-append_spelled.ensures.1 in
    rw (p.1, p.2) (refused_counted g.B.OctetsBuilder.room c.args.count c.args.text.now _ _ _ c.in_ok-append_slice.ensures.ok c.in_err-append_spelled.ensures.err)

use Rattle.std.proofs.Common.{◌∙◌}
use Rattle.std.proofs.lemmas.Result.{err_from_is_err_and}
use Rattle.finding_formats.proofs.escape.push_escaped.Goals as goal

pub returns-in_err-push_octet-clause-err : goal.returns-in_err-push_octet-clause-err
returns-in_err-push_octet-clause-err g c =
    let p = err_from_is_err_and c.from_residual.result c.from_residual.ensures.1 in
    rw p.1 (_, c.in_err-push_octet.ensures.err ∙ c.loop-octet.invariant)

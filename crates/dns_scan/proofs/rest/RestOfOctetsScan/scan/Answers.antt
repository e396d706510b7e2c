use Rattle.std.proofs.Common.{refl}
use Rattle.std.proofs.lemmas.Result.{err_from_is_err_and}
use Rattle.dns_scan.proofs.rest.RestOfOctetsScan.scan.Goals as goal

pub returns-in_err-entries_convert_as_their_join-clause-reads : goal.returns-in_err-entries_convert_as_their_join-clause-reads
returns-in_err-entries_convert_as_their_join-clause-reads g c = λ tokens stands.
    let p = err_from_is_err_and c.from_residual.result c.from_residual.ensures.1 in
    let took = c.in_err-entries_convert_as_their_join.ensures.converts tokens stands in
    rw (p.1, p.2) (took.0, (c.default.result, c.default.ensures, (c.in_err-entries_convert_as_their_join.field-0.0, refl, took.1)), took.2)

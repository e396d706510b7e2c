use Rattle.std.proofs.Common.{[]}
use Rattle.std.proofs.lemmas.Result.{err_from_is_err_and}
use Rattle.test_api.proofs.caa.CaaRecordData.scan_data.Goals as goal

pub returns-clause-back : goal.returns-clause-back
returns-clause-back g c = λ x tokens is texts stands. c.in_ok-flags.ensures.fields.back (x.flags, x.tag, x.value) [] tokens [] is.0 texts stands

pub returns-in_err-flags-clause-back : goal.returns-in_err-flags-clause-back
returns-in_err-flags-clause-back g c = λ x tokens is texts stands.
    let p = err_from_is_err_and c.from_residual.result c.from_residual.ensures.1 in
    rw (p.1, p.2) (c.in_err-flags.ensures.fields.back (x.flags, x.tag, x.value) [] tokens [] is.0 texts stands)

pub returns-clause-only : goal.returns-clause-only
returns-clause-only g c = λ tokens stands. c.in_ok-flags.ensures.fields.only tokens stands

pub returns-clause-reads : goal.returns-clause-reads
returns-clause-reads g c = c.in_ok-flags.ensures.reads

pub returns-in_err-flags-clause-reads : goal.returns-in_err-flags-clause-reads
returns-in_err-flags-clause-reads g c =
    let p = err_from_is_err_and c.from_residual.result c.from_residual.ensures.1 in
    rw (p.1, p.2) c.in_err-flags.ensures.reads

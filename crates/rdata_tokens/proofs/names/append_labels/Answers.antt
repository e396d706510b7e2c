use Rattle.std.proofs.Common.{refl, inl}
use Rattle.std.proofs.lemmas.Result.{err_from_is_err_and}
use Rattle.rdata_tokens.proofs.PutLabels.{labels_lack}
use Rattle.rdata_tokens.proofs.names.append_labels.Goals as goal

pub returns-in_err-append_slice-clause-err : goal.returns-in_err-append_slice-clause-err
returns-in_err-append_slice-clause-err g c =
    let p = err_from_is_err_and c.from_residual.result c.from_residual.ensures.1 in
    let labels = c.in-Some.labels in
    rw (p.1, p.2) (inl (refl, labels_lack g.B.OctetsBuilder.room c.args.text.now _ _ labels.count labels.is_absolute c.in-Some.ensures.1 c.in_err-append_slice.ensures.fits))

use Rattle.std.proofs.Common.{ap, length, arith, ◌∙◌, length-append}
use Rattle.std.proofs.lemmas.Result.{err_from_is_err_and}
use Rattle.rdata_tokens.proofs.FormLaws.{tag_exceeds}
use Rattle.rdata_tokens.proofs.tags.append_tag.Goals as goal

pub returns-in_err-append_slice-clause-err : goal.returns-in_err-append_slice-clause-err
returns-in_err-append_slice-clause-err g c =
    let p = err_from_is_err_and c.from_residual.result c.from_residual.ensures.1 in
    let old = g.B.AsOctets.octets c.args.target.now in
    rw (p.1, p.2) (tag_exceeds g.B.OctetsBuilder.room c.args.text.now old old 0 1 c.if-not-is_tag.ensures (omega arith) (omega arith) c.in_err-append_slice.ensures.fits)

pub returns-in_err-append_slice-2-clause-err : goal.returns-in_err-append_slice-2-clause-err
returns-in_err-append_slice-2-clause-err g c =
    let p = err_from_is_err_and c.from_residual-in_err-append_slice-2.result c.from_residual-in_err-append_slice-2.ensures.1 in
    let old = g.B.AsOctets.octets c.args.target.now in
    let middle = g.B.AsOctets.octets c.append_slice.new.self in
    rw (p.1, p.2) (tag_exceeds g.B.OctetsBuilder.room c.args.text.now old middle 1 (length c.args.text.now) c.if-not-is_tag.ensures
    (ap length c.in_ok-append_slice.ensures.ok ∙ length-append old _) (omega arith) c.in_err-append_slice-2.ensures.fits)

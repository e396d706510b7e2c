use Rattle.std.proofs.lemmas.Result.{err_from_is_err_and}
use Rattle.rdata_fields.proofs.Refusals.{tag_refused}
use Rattle.rdata_fields.proofs.texts.append_tag_field.Goals as goal

pub returns-in_err-append_tag : goal.returns-in_err-append_tag
returns-in_err-append_tag g c =
    let p = err_from_is_err_and c.from_residual.result c.from_residual.ensures.1 in
    rw (p.1, p.2) (tag_refused g.B.OctetsBuilder.room c.args.token.now.is_quoted c.args.token.now.text.now _ _ _ c.if-token.false c.in_err-append_tag.ensures.err c.in_err-append_tag.ensures.extends)

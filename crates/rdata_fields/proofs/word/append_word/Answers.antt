use Rattle.std.proofs.lemmas.Result.{err_from_is_err_and}
use Rattle.rdata_fields.proofs.Refusals.{word_short}
use Rattle.rdata_fields.proofs.word.append_word.Goals as goal

pub returns-in_err-append-clause-reads : goal.returns-in_err-append-clause-reads
returns-in_err-append-clause-reads g c =
    let p = err_from_is_err_and c.from_residual-in_err-append.result c.from_residual-in_err-append.ensures.1 in
    let read = c.in_ok-value.ensures in
    rw (p.1, p.2) (word_short g.B.OctetsBuilder.room _ _ _ _ _ _ c.args.token.now.is_quoted c.args.token.now.text.now _ _ _ c.if-token.false read.0 read.1 c.in_err-append.ensures.err c.in_err-append.ensures.fits)

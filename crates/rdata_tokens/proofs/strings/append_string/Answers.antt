use Rattle.std.proofs.lemmas.Result.{err_from_is_err_and}
use Rattle.rdata_tokens.proofs.FormLaws.{string_gained, string_refused}
use Rattle.rdata_tokens.proofs.strings.append_string.Goals as goal

pub returns-clause-ok : goal.returns-clause-ok
returns-clause-ok g c =
    let counted = c.in_ok-count.ensures in
    let gained = c.in_ok-append_counted.ensures.ok in (
      gained.0,
      string_gained c.args.text.now counted.0 gained.0 c.in_ok-count.count counted.1 counted.2 (let short = c.if-count-gt-MOST.false in rw (← counted.2) short) gained.1,
      gained.2,
    )

pub returns-in_err-append_counted-clause-err : goal.returns-in_err-append_counted-clause-err
returns-in_err-append_counted-clause-err g c =
    let p = err_from_is_err_and c.from_residual-in_err-append_counted.result c.from_residual-in_err-append_counted.ensures.1 in
    let counted = c.in_ok-count.ensures in
    rw (p.1, p.2) (string_refused g.B.OctetsBuilder.room c.args.text.now _ counted.0 c.in_ok-count.count _ counted.1 counted.2 (let short = c.if-count-gt-MOST.false in rw (← counted.2) short) c.in_err-append_counted.ensures.err)

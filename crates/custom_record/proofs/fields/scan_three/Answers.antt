use Rattle.std.proofs.lemmas.Result.{err_from_is_err_and}
use Rattle.custom_record.proofs.fields.scan_three.Goals as goal

pub returns-clause-fields : goal.returns-clause-fields
returns-clause-fields g c =
    let fields = c.in_ok-a.ensures.fields in
    record {
      back = λ x. fields.back (x.0, (x.1, x.2));
      before = λ x. fields.before (x.0, (x.1, x.2));
      only = fields.only;
    }

pub returns-in_err-a-clause-fields : goal.returns-in_err-a-clause-fields
returns-in_err-a-clause-fields g c =
    let p = err_from_is_err_and c.from_residual.result c.from_residual.ensures.1 in
    let fields = c.in_err-a.ensures.fields in
    rw (p.1, p.2) (record {
      back = λ x. fields.back (x.0, (x.1, x.2));
      before = λ x. fields.before (x.0, (x.1, x.2));
      only = fields.only;
    })

pub returns-clause-reads : goal.returns-clause-reads
returns-clause-reads g c = c.in_ok-a.ensures.reads

pub returns-in_err-a-clause-reads : goal.returns-in_err-a-clause-reads
returns-in_err-a-clause-reads g c =
    let p = err_from_is_err_and c.from_residual.result c.from_residual.ensures.1 in
    rw (p.1, p.2) c.in_err-a.ensures.reads

use Rattle.std.proofs.Common.{drop, ap, ◌∙◌, arith}
use Rattle.zone_record.proofs.FieldSizes.{labels_more}
use Rattle.zone_record.proofs.first_field.+after_labels.Goals as goal

pub returns : goal.returns
returns t c =
    c.after_labels.ensures
    ∙ labels_more c.args.octets.now c.in-Some.after.now c.after_count.result.now c.in-Some.count.now c.in-Some.ensures.cases.0 (omega (arith, c.if-count-eq0.false)) (c.after_count.ensures ∙ ap (λ n. drop n c.in-Some.after.now) c.from.ensures)

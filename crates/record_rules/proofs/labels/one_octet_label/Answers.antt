use Rattle.record_rules.proofs.LabelSteps.{one_octet}
use Rattle.record_rules.proofs.labels.one_octet_label.Goals as goal

pub returns-in-Some-split_first : goal.returns-in-Some-split_first
returns-in-Some-split_first c =
    one_octet c.args.name.now c.in-Some.count.now c.in-Some.rest.now c.in-Some-split_first.octet.now c.in-Some-split_first.after.now
    c.in-Some.ensures.cases.0 c.if-count-ne1.false c.in-Some-split_first.ensures.cases.0

use Rattle.std.proofs.Common.{sym, subst}
use Rattle.record_rules.specs.Labels.{HasFirstLabel, beyond_string}
use Rattle.record_rules.proofs.LabelSteps.{first_parts, no_octets, root_label}
use Rattle.record_rules.proofs.labels.split_label.Goals as goal

pub returns-then-count-eq0 : goal.returns-then-count-eq0
returns-then-count-eq0 c = root_label c.args.name.now c.in-Some.count.now c.in-Some.rest.now c.in-Some.ensures.cases.0 c.if-count-eq0.true

pub returns : goal.returns
returns c =
    let name = c.args.name.now in
    subst (λ rest. HasFirstLabel name c.first_string.result.now rest) (sym c.after_string.ensures)
    (subst (λ label. HasFirstLabel name label (beyond_string name)) (sym c.first_string.ensures) (first_parts name c.in-Some.count.now c.in-Some.rest.now c.in-Some.ensures.cases.0 c.if-count-eq0.false))

pub returns-in_default : goal.returns-in_default
returns-in_default c = no_octets c.args.name.now c.in_default.ensures.cases

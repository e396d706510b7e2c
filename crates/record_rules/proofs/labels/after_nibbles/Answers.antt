use Rattle.std.proofs.Common.{[], ◌∷◌, None, cond, sym, ap, ◌∙◌, ◌-◌}
use Rattle.record_rules.specs.Labels.{beyond_passing, is_nibble_label, name_labels}
use Rattle.record_rules.proofs.LabelSteps.{passing_label}
use Rattle.record_rules.proofs.labels.after_nibbles.Goals as goal

pub labels-preserved : goal.labels-preserved
labels-preserved c =
    let after = c.in-Some.after.now in
    sym (
    passing_label is_nibble_label c.labels.missing c.labels.rest.now (c.in-Some.digit.now ∷ []) after c.in-Some.ensures c.if-missing-eq0.false
    ∙ ap (λ b. cond b (beyond_passing is_nibble_label (c.labels.missing - 1) (name_labels after)) None) (sym c.is_ascii_hexdigit.ensures.value ∙ c.if-not-is_ascii_hexdigit.false)
    )
    ∙ c.labels.invariant

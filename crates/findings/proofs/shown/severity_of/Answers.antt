use Rattle.std.proofs.Common.{◌∙◌, sym}
use Rattle.std.proofs.lemmas.Bool.{both_ways}
use Rattle.findings.proofs.ShownSteps.{counted_severity, excepted_severity}
use Rattle.findings.proofs.shown.severity_of.Goals as goal

pub returns-then-not-is_excepted : goal.returns-then-not-is_excepted
returns-then-not-is_excepted c =
    let s = c.severity.ensures in
    counted_severity c.args.policy.now c.args.code c.args.is_refused c.args.is_excepted c.severity.result (λ _. c.if-not-is_excepted.true) s.text s.refused s.allowed s.denied s.other

pub returns-then-can_be_excepted : goal.returns-then-can_be_excepted
returns-then-can_be_excepted c =
    excepted_severity c.args.policy.now c.args.code c.args.is_refused c.args.is_excepted (sym c.can_be_excepted.ensures ∙ c.if-can_be_excepted.true) c.if-not-is_excepted.false

pub returns : goal.returns
returns c =
    let s = c.severity-2.ensures in
    counted_severity c.args.policy.now c.args.code c.args.is_refused c.args.is_excepted c.severity-2.result (λ can. absurd (both_ways _ (sym c.can_be_excepted.ensures ∙ c.if-can_be_excepted.false) can)) s.text s.refused s.allowed s.denied s.other

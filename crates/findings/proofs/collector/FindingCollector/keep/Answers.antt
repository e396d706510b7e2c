use Rattle.std.proofs.Common.{[], ◌∷◌, ◌++◌, Some, refl}
use Rattle.findings.specs.FindingOrder.{with_text}
use Rattle.findings.proofs.CollectedSteps.{among_more, among_same, among_wider, any_err, judged_less, kept_more}
use Rattle.findings.proofs.collector.FindingCollector.keep.Goals as goal

pub returns-in_err-drop_hidden-clause-among : goal.returns-in_err-drop_hidden-clause-among
returns-in_err-drop_hidden-clause-among g c =
    among_wider c.args.self.now.kept.items c.drop_hidden.new.kept.items (with_text c.args.finding c.args.text ∷ []) c.drop_hidden.ensures.among

pub returns-in_err-drop_hidden-clause-unchanged : goal.returns-in_err-drop_hidden-clause-unchanged
returns-in_err-drop_hidden-clause-unchanged g c =
    any_err c.from_residual.result _
    (λ found h. judged_less found (Some c.args.finding) c.args.self.now _ c.drop_hidden.new.kept.items c.drop_hidden.ensures.alike (c.drop_hidden.ensures.last h.last) refl refl refl refl h)

pub returns-in_err-push-clause-among : goal.returns-in_err-push-clause-among
returns-in_err-push-clause-among g c =
    let all = c.args.self.now.kept.items ++ with_text c.args.finding c.args.text ∷ [] in
    among_same all c.push.new.self.items c.drop_hidden.new.kept.items c.in_err-push.ensures.items
    (among_wider c.args.self.now.kept.items c.drop_hidden.new.kept.items (with_text c.args.finding c.args.text ∷ []) c.drop_hidden.ensures.among)

pub returns-in_err-push-clause-unchanged : goal.returns-in_err-push-clause-unchanged
returns-in_err-push-clause-unchanged g c =
    any_err c.from_residual-in_err-push.result _
    (λ found h. judged_less found (Some c.args.finding) c.args.self.now _ c.drop_hidden.new.kept.items c.drop_hidden.ensures.alike (c.drop_hidden.ensures.last h.last) c.in_err-push.ensures.items refl refl refl h)

pub returns-clause-among : goal.returns-clause-among
returns-clause-among g c =
    let one = with_text c.args.finding c.args.text in
    among_same (c.args.self.now.kept.items ++ one ∷ []) c.push.new.self.items (c.drop_hidden.new.kept.items ++ one ∷ []) c.in_ok-push.ensures.items
    (among_more c.args.self.now.kept.items c.drop_hidden.new.kept.items (one ∷ []) c.drop_hidden.ensures.among)

pub returns-clause-kept : goal.returns-clause-kept
returns-clause-kept g c found h =
    let self = c.args.self.now in
    let less = record self { kept = c.drop_hidden.new.kept; last = c.drop_hidden.new.last } in
    kept_more found c.args.finding c.args.text less _ c.in_ok-push.ensures.items refl refl refl refl
    (judged_less found (Some c.args.finding) self less c.drop_hidden.new.kept.items c.drop_hidden.ensures.alike (c.drop_hidden.ensures.last h.last) refl refl refl refl h)

use Rattle.std.proofs.Common.{Ok, Err, ◌∙◌, ◌++◌, [], ◌∷◌, ap, refl}
use Rattle.std.proofs.lemmas.Result.{err_from_is_err_and}
use Rattle.dns_wire.specs.Wire.{wire}
use Rattle.dns_wire.specs.Building.{Naming, all_labels, closed, with_label}
use Rattle.dns_wire.proofs.Builders.{as_naming, opened_is, whole_of, wire_whole, built_whole}
use Rattle.dns_wire.proofs.name_builder.NameBuilder.append_label.Goals as goal

pub returns-in_err-append_whole-clause-answers : goal.returns-in_err-append_whole-clause-answers
returns-in_err-append_whole-clause-answers g c =
    let q = err_from_is_err_and c.from_residual.result c.from_residual.ensures.1 in
    let p = c.self.inside.opened in
    rw (q.1, q.2) (whole_of c.args.self.now _ c.args.label.now g.B.OctetsBuilder.room (Err c.in_err-append_whole.field-0.0)
    (p.1.0 ∙ ap (λ (b : Naming). wire (all_labels b)) c.self.view_is) c.in_err-append_whole.ensures.answers)

pub returns-clause-answers : goal.returns-clause-answers
returns-clause-answers g c =
    let p = c.self.inside.opened in
    whole_of c.args.self.now _ c.args.label.now g.B.OctetsBuilder.room (Ok tt)
    (p.1.0 ∙ ap (λ (b : Naming). wire (all_labels b)) c.self.view_is) c.in_ok-append_whole.ensures.answers

pub invariant_of-self-inside-2 : goal.invariant_of-self-inside-2
invariant_of-self-inside-2 g c =
    let p = c.self.inside.opened in
    let labels = p.0.0 ++ closed p.0.1 in
    (((labels ++ c.args.label.now ∷ [], []), (c.in_ok-append_whole.ensures.ok ∙ wire_whole _ labels c.args.label.now p.1.0, refl)), tt)

pub invariant_of-self-2 : goal.invariant_of-self-2
invariant_of-self-2 g c =
    let p = c.self.inside.opened in
    let labels = p.0.0 ++ closed p.0.1 in
    let answers = whole_of (as_naming p.0) _ c.args.label.now g.B.OctetsBuilder.room (Ok tt) p.1.0 c.in_ok-append_whole.ensures.answers in
    rw (opened_is _ _ c.self-2-1.given.0 (labels ++ c.args.label.now ∷ []) [] (c.in_ok-append_whole.ensures.ok ∙ wire_whole _ labels c.args.label.now p.1.0) refl)
    (built_whole labels c.args.label.now c.self.invariant.0 c.requires answers.1 answers.0)

pub invariant_of-self : goal.invariant_of-self
invariant_of-self g c =
    let p = c.self.inside.opened in
    rw (opened_is _ _ c.in_err-append_whole.self-1-own.given.0 p.0.0 p.0.1 (c.in_err-append_whole.ensures.err ∙ p.1.0) p.1.1) c.self.invariant

pub returns-clause-ok : goal.returns-clause-ok
returns-clause-ok g c =
    let p = c.self.inside.opened in
    let labels = p.0.0 ++ closed p.0.1 in
    ap as_naming (opened_is _ _ c.self-2-1.given.0 (labels ++ c.args.label.now ∷ []) [] (c.in_ok-append_whole.ensures.ok ∙ wire_whole _ labels c.args.label.now p.1.0) refl)
    ∙ ap (λ b. with_label b c.args.label.now) c.self.view_is

pub returns-in_err-append_whole-clause-err : goal.returns-in_err-append_whole-clause-err
returns-in_err-append_whole-clause-err g c =
    let q = err_from_is_err_and c.from_residual.result c.from_residual.ensures.1 in
    let p = c.self.inside.opened in
    rw q.1 (ap as_naming (opened_is _ _ c.in_err-append_whole.self-1-own.given.0 p.0.0 p.0.1 (c.in_err-append_whole.ensures.err ∙ p.1.0) p.1.1) ∙ c.self.view_is)

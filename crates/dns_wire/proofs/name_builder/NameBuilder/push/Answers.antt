use Rattle.std.proofs.Common.{Ok, Err, ◌+◌, ◌∙◌, ◌++◌, [], ◌∷◌, ap, arith, length, sym}
use Rattle.std.proofs.lemmas.Result.{err_from_is_err_and}
use Rattle.std.proofs.lemmas.Grind.{common_steps}
use Rattle.dns_wire.specs.Wire.{wire}
use Rattle.dns_wire.specs.Building.{Naming, all_labels, with_octet}
use Rattle.dns_wire.proofs.Builders.{as_naming, opened_is, more_length, grown_is, built_more, growth_of, length_more}
use Rattle.dns_wire.proofs.name_builder.NameBuilder.push.Goals as goal

pub returns-in_err-grow-clause-answers : goal.returns-in_err-grow-clause-answers
returns-in_err-grow-clause-answers g c =
    let q = err_from_is_err_and c.from_residual.result c.from_residual.ensures.1 in
    let p = c.self.inside.opened in
    let v = c.self.view_is in
    rw (q.1, q.2) (growth_of c.args.self.now _ _ c.args.octet g.B.OctetsBuilder.room (Err c.in_err-grow.field-0.0) (p.1.0 ∙ ap (λ (b : Naming). wire (all_labels b)) v)
    (ap (λ (b : Naming). length b.current) (sym v) ∙ p.1.1) c.in_err-grow.ensures.answers)

pub returns-clause-answers : goal.returns-clause-answers
returns-clause-answers g c =
    let p = c.self.inside.opened in
    let v = c.self.view_is in
    growth_of c.args.self.now _ _ c.args.octet g.B.OctetsBuilder.room (Ok tt) (p.1.0 ∙ ap (λ (b : Naming). wire (all_labels b)) v)
    (ap (λ (b : Naming). length b.current) (sym v) ∙ p.1.1) c.in_ok-grow.ensures.answers

pub invariant_of-self-inside-2 : goal.invariant_of-self-inside-2
invariant_of-self-inside-2 g c =
    let p = c.self.inside.opened in (
      (
        (p.0.0, p.0.1 ++ c.args.octet ∷ []),
        (c.in_ok-grow.ensures.ok ∙ grown_is _ p.0.0 p.0.1 c.args.octet _ p.1.0 p.1.1, grind (arith, common_steps, p.1.1)),
      ),
      tt,
    )

pub invariant_of-self-2 : goal.invariant_of-self-2
invariant_of-self-2 g c =
    let p = c.self.inside.opened in
    let e = opened_is _ _ c.self-2-1.given.0 p.0.0 (p.0.1 ++ c.args.octet ∷ [])
    (c.in_ok-grow.ensures.ok ∙ grown_is _ p.0.0 p.0.1 c.args.octet _ p.1.0 p.1.1) (length_more p.0.1 c.args.octet ∙ ap (λ k. k + 1) p.1.1) in
    rw e (built_more p.0.0 p.0.1 c.args.octet c.self.invariant
    (rw (more_length _ p.0.0 p.0.1 c.args.octet p.1.0, p.1.1) c.in_ok-grow.ensures.answers.0) (rw p.1.1 c.in_ok-grow.ensures.answers.1))

pub invariant_of-self : goal.invariant_of-self
invariant_of-self g c =
    let p = c.self.inside.opened in
    rw (opened_is _ _ c.in_err-grow.self-1-own.given.0 p.0.0 p.0.1 (c.in_err-grow.ensures.err ∙ p.1.0) p.1.1) c.self.invariant

pub returns-clause-ok : goal.returns-clause-ok
returns-clause-ok g c =
    let p = c.self.inside.opened in
    let e = opened_is _ _ c.self-2-1.given.0 p.0.0 (p.0.1 ++ c.args.octet ∷ [])
    (c.in_ok-grow.ensures.ok ∙ grown_is _ p.0.0 p.0.1 c.args.octet _ p.1.0 p.1.1) (length_more p.0.1 c.args.octet ∙ ap (λ k. k + 1) p.1.1) in
    ap as_naming e ∙ ap (λ b. with_octet b c.args.octet) c.self.view_is

pub returns-in_err-grow-clause-err : goal.returns-in_err-grow-clause-err
returns-in_err-grow-clause-err g c =
    let q = err_from_is_err_and c.from_residual.result c.from_residual.ensures.1 in
    let p = c.self.inside.opened in
    rw q.1 (ap as_naming (opened_is _ _ c.in_err-grow.self-1-own.given.0 p.0.0 p.0.1 (c.in_err-grow.ensures.err ∙ p.1.0) p.1.1) ∙ c.self.view_is)

use Rattle.std.proofs.Common.{sym, length, arith, inl, inr}
use Rattle.std.proofs.lemmas.Bool.{eqb-true, eqb-false}
use Rattle.std.proofs.lemmas.Result.{err_from_is_err_and}
use Rattle.dns_wire.proofs.Wires.{is_nil}
use Rattle.rdata_tokens.proofs.LabelParts.{next_label, part_spells, labels_exceed, ends_open, ends_dotted, goes_on_dotted, behind_dot, lone_dot, some_behind}
use Rattle.rdata_tokens.proofs.names.append_each.Goals as goal

pub returns-in_err-append_counted-clause-err : goal.returns-in_err-append_counted-clause-err
returns-in_err-append_counted-clause-err g c =
    let p = err_from_is_err_and c.from_residual-in_err-append_counted.result c.from_residual-in_err-append_counted.ensures.1 in
    let l = c.in_ok-label.ensures in
    rw (p.1, p.2) (elim c.in_err-append_counted.ensures.err [
      | inl bad ↦ absurd (bad.1.1 _ (part_spells c.in_ok-label.label.text.now l.0 l.1.each l.3))
      | inr lacks ↦ inl (
        lacks.0,
        labels_exceed g.B.OctetsBuilder.room c.args.text.now _ c.labels.rest.now _ c.in_ok-label.label.text.now c.in_ok-label.label.rest.now
            c.labels.count c.in_ok-label.label.count l.0 c.labels.invariant l.1 l.2 l.3 l.4 l.5 lacks.1,
      )
    ])

pub returns-then-is_empty-clause-ok : goal.returns-then-is_empty-clause-ok
returns-then-is_empty-clause-ok g c =
    let l = c.in_ok-label.ensures in
    ends_open c.args.text.now _ _ c.in_ok-label.label.rest.now _
    (next_label c.args.text.now _ c.labels.rest.now _ _ c.in_ok-label.label.text.now c.in_ok-label.label.rest.now c.labels.count c.in_ok-label.label.count l.0 c.labels.invariant l.1 l.3 l.4 l.5 c.in_ok-append_counted.ensures.ok)
    (is_nil c.in_ok-label.label.rest.now (eqb-true (length c.in_ok-label.label.rest.now) 0 (sym c.if-is_empty.ensures)))

pub returns-then-label-eq1-clause-ok : goal.returns-then-label-eq1-clause-ok
returns-then-label-eq1-clause-ok g c =
    let l = c.in_ok-label.ensures in
    let after = c.in_ok-label.label.rest.now in
    ends_dotted c.args.text.now _ _ after _
    (next_label c.args.text.now _ c.labels.rest.now _ _ c.in_ok-label.label.text.now after c.labels.count c.in_ok-label.label.count l.0 c.labels.invariant l.1 l.3 l.4 l.5 c.in_ok-append_counted.ensures.ok)
    (lone_dot after l.2 c.if-label-eq1.true)

pub labels-preserved : goal.labels-preserved
labels-preserved g c =
    let l = c.in_ok-label.ensures in
    let after = c.in_ok-label.label.rest.now in
    goes_on_dotted c.args.text.now _ _ after _ _
    (next_label c.args.text.now _ c.labels.rest.now _ _ c.in_ok-label.label.text.now after c.labels.count c.in_ok-label.label.count l.0 c.labels.invariant l.1 l.3 l.4 l.5 c.in_ok-append_counted.ensures.ok)
    (behind_dot after l.2 (omega (arith, eqb-false (length after) 0 (sym c.if-is_empty.ensures))))
    (some_behind after (omega (arith, eqb-false (length after) 0 (sym c.if-is_empty.ensures))) c.if-label-eq1.false)

use Rattle.std.proofs.Common.{length, sym, subst, refl}
use Rattle.std.proofs.lemmas.Bool.{eqb-true, eqb-false}
use Rattle.rdata_values.specs.Locator.{FindsGroups}
use Rattle.rdata_values.proofs.GroupLemmas.{some_begin, some_on, after_begin, after_on, nothing_more, no_more, join_begin, join_on}
use Rattle.rdata_values.proofs.locator.groups_of.Goals as goal

pub returns-in_err-a : goal.returns-in_err-a
returns-in_err-a c = subst (FindsGroups c.args.text.now) (sym c.from_residual.ensures) (λ groups four is. some_begin c.args.text.now groups 3 four is c.in_err-a.ensures)

pub returns-in_err-b : goal.returns-in_err-b
returns-in_err-b c =
    subst (FindsGroups c.args.text.now) (sym c.from_residual-in_err-b.ensures)
    (λ groups four is. some_on c.in_ok-a.a.rest.now 2 (after_begin c.args.text.now c.in_ok-a.a.rest.now groups c.in_ok-a.a.number 3 c.in_ok-a.ensures four is) c.in_err-b.ensures)

pub returns-in_err-c : goal.returns-in_err-c
returns-in_err-c c =
    subst (FindsGroups c.args.text.now) (sym c.from_residual-in_err-c.ensures)
    (λ groups four is. some_on c.in_ok-b.b.rest.now 1 (after_on c.in_ok-a.a.rest.now c.in_ok-b.b.rest.now c.in_ok-b.b.number 2 c.in_ok-b.ensures (after_begin c.args.text.now c.in_ok-a.a.rest.now groups c.in_ok-a.a.number 3 c.in_ok-a.ensures four is)) c.in_err-c.ensures)

pub returns-in_err-d : goal.returns-in_err-d
returns-in_err-d c =
    subst (FindsGroups c.args.text.now) (sym c.from_residual-in_err-d.ensures)
    (λ groups four is. some_on c.in_ok-c.c.rest.now 0 (after_on c.in_ok-b.b.rest.now c.in_ok-c.c.rest.now c.in_ok-c.c.number 1 c.in_ok-c.ensures (after_on c.in_ok-a.a.rest.now c.in_ok-b.b.rest.now c.in_ok-b.b.number 2 c.in_ok-b.ensures (after_begin c.args.text.now c.in_ok-a.a.rest.now groups c.in_ok-a.a.number 3 c.in_ok-a.ensures four is))) c.in_err-d.ensures)

pub returns-then-is_empty : goal.returns-then-is_empty
returns-then-is_empty c = (
  refl,
  join_begin c.args.text.now c.in_ok-a.a.rest.now _ c.in_ok-a.a.number c.in_ok-a.ensures
      (join_on c.in_ok-a.a.rest.now c.in_ok-b.b.rest.now _ c.in_ok-b.b.number c.in_ok-b.ensures
      (join_on c.in_ok-b.b.rest.now c.in_ok-c.c.rest.now _ c.in_ok-c.c.number c.in_ok-c.ensures
      (join_on c.in_ok-c.c.rest.now c.in_ok-d.d.rest.now _ c.in_ok-d.d.number c.in_ok-d.ensures (no_more c.in_ok-d.d.rest.now (eqb-true (length c.in_ok-d.d.rest.now) 0 (sym c.if-is_empty.ensures)))))),
)

pub returns-else-is_empty : goal.returns-else-is_empty
returns-else-is_empty c = λ groups four is.
    let behind_a = after_begin c.args.text.now c.in_ok-a.a.rest.now groups c.in_ok-a.a.number 3 c.in_ok-a.ensures four is in
    let behind_b = after_on c.in_ok-a.a.rest.now c.in_ok-b.b.rest.now c.in_ok-b.b.number 2 c.in_ok-b.ensures behind_a in
    let behind_c = after_on c.in_ok-b.b.rest.now c.in_ok-c.c.rest.now c.in_ok-c.c.number 1 c.in_ok-c.ensures behind_b in
    let behind_d = after_on c.in_ok-c.c.rest.now c.in_ok-d.d.rest.now c.in_ok-d.d.number 0 c.in_ok-d.ensures behind_c in
    eqb-false (length c.in_ok-d.d.rest.now) 0 (sym c.if-is_empty.ensures) (nothing_more c.in_ok-d.d.rest.now behind_d)

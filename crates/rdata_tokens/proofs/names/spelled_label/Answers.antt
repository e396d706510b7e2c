use Rattle.std.proofs.Common.{[], ◌∷◌, ◌∙◌, sym, arith}
use Rattle.rdata_tokens.proofs.Fronts.{front_length}
use Rattle.rdata_tokens.proofs.LabelParts.{label_octet, open_more}
use Rattle.rdata_tokens.proofs.names.spelled_label.Goals as goal

pub returns-then-count-eq-MAX_LABEL : goal.returns-then-count-eq-MAX_LABEL
returns-then-count-eq-MAX_LABEL c =
    let i = c.loop-rest.invariant in
    let s = label_octet c.loop-rest.rest.now c.in_ok-first.first.rest.now c.in_ok-first.first.octet c.in_ok-first.ensures c.if-rest-ne46.true in
    (i.0, c.loop-rest.rest.now, i.1, sym i.2 ∙ c.if-count-eq-MAX_LABEL.true, (s.0, c.in_ok-first.first.rest.now, s.1, s.2))

pub returns-then-count-room : goal.returns-then-count-room
returns-then-count-room c =
    let i = c.loop-rest.invariant in
    let s = label_octet c.loop-rest.rest.now c.in_ok-first.first.rest.now c.in_ok-first.first.octet c.in_ok-first.ensures c.if-rest-ne46.true in
    (i.0, c.loop-rest.rest.now, i.1, omega (arith, i.2, i.1.short, c.if-count-eq-MAX_LABEL.false), omega (arith, i.2, c.if-count-room.true), (s.0, c.in_ok-first.first.rest.now, s.1, s.2))

pub loop-rest-smaller : goal.loop-rest-smaller
loop-rest-smaller c =
    let k = c.in_ok-first.ensures in omega (arith, front_length c.loop-rest.rest.now (c.in_ok-first.first.octet ∷ []) c.in_ok-first.first.rest.now k)

pub loop-rest-preserved : goal.loop-rest-preserved
loop-rest-preserved c =
    open_more c.args.text.now c.loop-rest.rest.now c.in_ok-first.first.rest.now c.args.room c.loop-rest.count c.in_ok-first.first.octet c.loop-rest.invariant c.in_ok-first.ensures
    c.if-rest-ne46.true c.if-count-eq-MAX_LABEL.false c.if-count-room.false

use Rattle.std.proofs.Common.{◌≡◌, ◌≤◌, ◌+◌, length, take, subst, refl, sym, arith}
use Rattle.std.proofs.lemmas.Bool.{eqb-true, eqb-false}
use Rattle.rdata_tokens.specs.NameSpelling.{IsWireName}
use Rattle.rdata_tokens.proofs.FormLaws.{slice_values}
use Rattle.rdata_tokens.proofs.NameFronts.{next_of_name, counted_name, counted_next}
use Rattle.rdata_tokens.proofs.widths.name_width.Goals as goal
use Rattle.rdata_tokens.proofs.widths.name_width.Goals.{then-count-gt-MAX_LABEL-via-then-count-gt-MAX_LABEL, then-count-gt-MAX_LABEL-via-else-count-gt-MAX_LABEL+then-rest-count, then-count-gt-MAX_LABEL-via-else-count-gt-MAX_LABEL+else-rest-count+then-width-count-gt-MAX_NAME}

pub returns-then-count-gt-MAX_LABEL : goal.returns-then-count-gt-MAX_LABEL
returns-then-count-gt-MAX_LABEL c = λ form after name e.
    let next = next_of_name c.args.octets.now c.loop-rest.rest.now form after c.loop-rest.width c.loop-rest.invariant name e in
    let count = c.from-count.ensures in
    elim c.then-count-gt-MAX_LABEL.branch [
      | then-count-gt-MAX_LABEL-via-then-count-gt-MAX_LABEL w ↦ omega (arith, next.short, count, w.if-count-gt-MAX_LABEL.true)
      | then-count-gt-MAX_LABEL-via-else-count-gt-MAX_LABEL+then-rest-count w ↦ omega (arith, next.long, count, w.if-rest-count.true)
      | then-count-gt-MAX_LABEL-via-else-count-gt-MAX_LABEL+else-rest-count+then-width-count-gt-MAX_NAME w ↦ omega (arith, next.fits, count, w.if-width-count-gt-MAX_NAME.true)
    ]

pub returns-then-count-eq0 : goal.returns-then-count-eq0
returns-then-count-eq0 c =
    let octets = c.args.octets.now in
    let rest = c.loop-rest.rest.now in
    let whole : c.loop-rest.width + 1 ≡ c.loop-rest.width + (1 + c.from-count.result) = omega (arith, c.if-count-eq0.true) in
    subst (λ n. (n ≤ length octets) × IsWireName (take n octets)) whole
    (counted_name octets rest c.loop-rest.width (slice_values octets (λ k. (c.type_inv.octets k).fits)) c.loop-rest.invariant
    (omega (arith, eqb-false (length rest) 0 (sym c.loop-rest-test.ensures))) (omega (arith, c.from-count.ensures, c.if-count-eq0.true)) (omega (arith, c.if-width-count-gt-MAX_NAME.false)))

pub loop-rest-preserved : goal.loop-rest-preserved
loop-rest-preserved c =
    counted_next c.args.octets.now c.loop-rest.rest.now c.loop-rest.width c.from-count.result _ c.loop-rest.invariant c.from-count.ensures c.if-rest-count.false c.if-count-eq0.false
    c.if-count-gt-MAX_LABEL.false c.if-width-count-gt-MAX_NAME.false refl

pub returns : goal.returns
returns c = λ form after name e.
    let rest = c.loop-rest.rest.now in
    let next = next_of_name c.args.octets.now rest form after c.loop-rest.width c.loop-rest.invariant name e in
    omega (arith, next.some, eqb-true (length rest) 0 (sym c.loop-rest-test.ensures))

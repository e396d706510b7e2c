use Rattle.std.proofs.Common.{◌<◌, ◌++◌, ◌∷◌, [], length, sym, ap, subst, ◌∙◌, arith, eqb-true}
use Rattle.zone_update.specs.Parts.{seen}
use Rattle.zone_update.proofs.Cutting.{CutsSoFar, begins, ends, next, nothing_left}
use Rattle.zone_update.proofs.parts.cut_parts.Goals as goal

pub parts-init : goal.parts-init
parts-init g c =
    let names = c.args.names.now in
    let ops = c.args.operations.now in
    subst (λ l. CutsSoFar names c.args.limit ops (seen l) ops) (sym c.new-parts.ensures.items) (begins names c.args.limit ops)

pub parts-preserved : goal.parts-preserved
parts-preserved g c =
    let names = c.args.names.now in
    let ops = c.args.operations.now in
    let found = c.part_len-count.ensures in
    let some : 0 < c.part_len-count.result = omega (arith, c.if-count-eq0.false) in
    let made = c.in_ok-push_part.ensures ∙ ap (λ p. seen c.parts.parts.items ++ p ∷ []) c.first_operations.ensures in
    subst (λ l. CutsSoFar names c.args.limit ops (seen c.push_part.new.out.items) l) (sym c.rest_after-rest.ensures)
    (next names c.args.limit ops (seen c.parts.parts.items) c.parts.rest.now c.parts.invariant c.part_len-count.result some found.within found.fits (found.whole some) found.longest
    (seen c.push_part.new.out.items) made)

pub returns-clause-ok : goal.returns-clause-ok
returns-clause-ok g c =
    ends c.args.names.now c.args.limit c.args.operations.now (seen c.parts.parts.items) c.parts.rest.now c.parts.invariant
    (nothing_left c.parts.rest.now (eqb-true (length c.parts.rest.now) 0 (sym c.parts-test.ensures)))

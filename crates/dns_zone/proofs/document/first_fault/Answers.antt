use Rattle.std.proofs.Common.{◌≡◌, [], length, drop, ◌<◌, sym, ap, subst, refl, arith}
use Rattle.std.proofs.lemmas.List.{drop_all}
use Rattle.dns_zone.specs.Documents.{item_steps, IsFirstFault}
use Rattle.dns_zone.specs.declared.error.DocumentError.TheVariants.{OpenBlock}
use Rattle.dns_zone.proofs.Scanned.{scanned_more, scanned_fault, rest_more}
use Rattle.dns_zone.proofs.document.first_fault.Goals as goal

pub loop-place-preserved : goal.loop-place-preserved
loop-place-preserved g c =
    let h : c.loop-place.place < length c.args.items.now = omega arith in
    let rest = rest_more c.args.items.now c.loop-place.place c.index-items-place.result h c.index-items-place.is in
    rw (c.blocks_after-blocks.ensures) (scanned_more _ _ _ _ _ (rw rest at c.loop-place.invariant) c.in_default.ensures.proper c.in_default.ensures.end c.in_default.ensures.newline)

pub returns-in-Some-clause-fault : goal.returns-in-Some-clause-fault
returns-in-Some-clause-fault g c =
    let h : c.loop-place.place < length c.args.items.now = omega arith in
    let rest = rest_more c.args.items.now c.loop-place.place c.index-items-place.result h c.index-items-place.is in
    scanned_fault _ _ _ _ _ c.in-Some.error (rw rest at c.loop-place.invariant) c.in-Some.ensures.fault

pub returns-else-blocks-eq0-clause-fault : goal.returns-else-blocks-eq0-clause-fault
returns-else-blocks-eq0-clause-fault g c =
    let inv = c.loop-place.invariant in
    let none : item_steps (drop c.loop-place.place c.args.items.now) ≡ [] = ap item_steps (drop_all c.loop-place.place c.args.items.now (omega arith)) in
    inv.fault OpenBlock (subst (λ xs. IsFirstFault inv.past xs OpenBlock) (sym none) (refl, omega (arith, inv.opens)))

use Rattle.std.proofs.Common.{◌∙◌, ◌*◌, ◌<◌, ap, arith}
use Rattle.rdata_values.proofs.Places.{set_here, clear_here, clear_behind}
use Rattle.rdata_values.proofs.bitmap.next_set.Goals as goal

pub returns-then-is_set : goal.returns-then-is_set
returns-then-is_set c =
    let l : c.loop-place.place < 256 = omega (arith, c.min-end.ensures) in
    (l, c.loop-place.invariant.1 ∙ set_here c.args.octets.now c.loop-place.place l c.if-is_set.ensures)

pub loop-place-preserved : goal.loop-place-preserved
loop-place-preserved c =
    let l : c.loop-place.place < 256 = omega (arith, c.min-end.ensures) in
    (omega arith, c.loop-place.invariant.1 ∙ clear_here c.args.octets.now c.loop-place.place l c.if-is_set.ensures)

pub returns : goal.returns
returns c = c.loop-place.invariant.1 ∙ clear_behind c.args.octets.now c.loop-place.place (8 * c.min-end.result) (ap (λ n. 8 * n) c.min-end.ensures) (omega arith)

use Rattle.std.proofs.Common.{◌≡◌, ◌+◌, ◌-◌, ◌||◌, drop, sym, ap, ◌∙◌, arith}
use Rattle.zone_format.specs.Columns.{has_second}
use Rattle.zone_format.proofs.Spelling.{second_at, second_last}
use Rattle.zone_format.proofs.columns.has_second.Goals as goal

pub loop-place-preserved : goal.loop-place-preserved
loop-place-preserved c =
    let inv = c.loop-place.invariant in
    let xs = c.args.comment.now in
    let j = c.loop-place.place in
    let next : j ≡ j + 1 - 1 = omega arith in
    record {
      some = omega arith;
      same = inv.same ∙ second_at xs (j - 1) j (omega (arith, inv.some)) (omega (arith, c.loop-place-test.true))
          ∙ ap (λ b. b || has_second (drop j xs)) (sym c.is_second.ensures ∙ c.if-is_second.false) ∙ ap (λ k. has_second (drop k xs)) next;
    }

pub returns : goal.returns
returns c = sym (c.loop-place.invariant.same ∙ second_last c.args.comment.now (c.loop-place.place - 1) (omega (arith, c.loop-place-test.false, c.loop-place.invariant.some)))

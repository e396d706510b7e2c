use Rattle.std.proofs.Common.{◌<◌, get_or, subst, arith}
use Rattle.std.specs.Prelude.{All, nat_lt}
use Rattle.std.proofs.lemmas.Bool.{and_parts, ltb-true}
use Rattle.std.proofs.lemmas.List.{take_all}
use Rattle.zone_contents.proofs.WithinKeys.{plain_more}
use Rattle.zone_contents.proofs.zone_key.is_plain.Goals as goal

pub loop-index-preserved : goal.loop-index-preserved
loop-index-preserved c = λ yes.
    let block = c.args.block.now in
    let i = c.loop-index.index in
    let both = and_parts c.loop-index.is_plain (nat_lt 1 (get_or block i 0)) yes in
    plain_more block i 0 (omega (arith, c.loop-index-test.true, c.told-block)) (c.loop-index.invariant both.0) (ltb-true 1 (get_or block i 0) both.1)

pub returns : goal.returns
returns c = λ yes. subst (All (λ o. 1 < o)) (take_all c.loop-index.index c.args.block.now (omega (arith, c.loop-index-test.false, c.told-block))) (c.loop-index.invariant yes)

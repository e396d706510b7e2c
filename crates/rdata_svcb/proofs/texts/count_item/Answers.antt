use Rattle.std.proofs.Common.{[], ◌∷◌, ◌++◌, arith}
use Rattle.std.proofs.lemmas.List.{length-append}
use Rattle.rdata_svcb.proofs.WireItems.{takes_more, octet_shorter}
use Rattle.rdata_svcb.proofs.texts.count_item.Goals as goal

pub loop-first-smaller : goal.loop-first-smaller
loop-first-smaller c = octet_shorter c.loop-first.rest.now c.in-Some.first.rest.now c.in-Some.first.octet c.in-Some.ensures

pub loop-first-preserved : goal.loop-first-preserved
loop-first-preserved c =
    let front = c.loop-first.invariant.0 in let o = c.in-Some.first.octet in (
      front ++ o ∷ [],
      takes_more c.args.text.now front c.loop-first.rest.now c.in-Some.first.rest.now o c.loop-first.invariant.1 c.in-Some.ensures,
      omega (arith, c.loop-first.invariant.2, length-append front (o ∷ [])),
    )

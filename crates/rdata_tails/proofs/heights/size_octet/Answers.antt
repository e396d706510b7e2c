use Rattle.rdata_tails.proofs.HeightLemmas.{one_less}
use Rattle.rdata_tails.proofs.heights.size_octet.Goals as goal

pub loop-digit-preserved : goal.loop-digit-preserved
loop-digit-preserved c = one_less c.args.number c.loop-digit.digit c.loop-digit.behind c.requires c.loop-digit-test.true c.loop-digit.invariant

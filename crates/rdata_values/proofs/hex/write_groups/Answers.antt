use Rattle.std.proofs.Common.{sym, rules}
use Rattle.std.proofs.lemmas.Grind.{put_two}
use Rattle.rdata_values.proofs.GroupTexts.{groups_more}
use Rattle.rdata_values.proofs.hex.write_groups.Goals as goal

pub loop-index-preserved : goal.loop-index-preserved
loop-index-preserved g c = λ plain.
    let before = c.loop-index.invariant plain in
    put_two g.W.Write.write_str_gives _ _ _ _ _ _ before (search rules) (sym (groups_more c.args.size c.args.mark 0 c.args.octets.now c.loop-index.index c.loop-index-test.true))

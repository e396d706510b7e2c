use Rattle.std.proofs.Common.{sym, rules}
use Rattle.std.proofs.lemmas.Grind.{put_two}
use Rattle.rdata_values.proofs.HexLaws.{small_more}
use Rattle.rdata_values.proofs.hex.write_small_pairs.Goals as goal

pub loop-octet-preserved : goal.loop-octet-preserved
loop-octet-preserved g c = λ plain.
    let before = c.loop-octet.invariant plain in
    put_two g.W.Write.write_str_gives _ _ _ _ _ _ before (search rules) (sym (small_more c.args.octets.now c.loop-octet.octet-index c.loop-octet-test.true))

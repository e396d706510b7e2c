use Rattle.std.proofs.Common.{arith}
use Rattle.std.proofs.lemmas.Grind.{common_steps}
use Rattle.dns_charstr.proofs.OctetSpellings.{spells_one_more}
use Rattle.dns_charstr.proofs.charstr.CharStr.read_octets.Goals as goal

pub loop-octets-preserved : goal.loop-octets-preserved
loop-octets-preserved g c =
    let found = rw c.in-Some.is at c.in_ok-octet.ensures.reads in
    record {
      read = rw c.in_ok-append_slice.ensures.ok (spells_one_more _ _ _ _ c.in-Some.octet c.loop-octets.invariant.read found.0);
      short = grind (arith, common_steps);
      within = omega (arith, c.in_ok-append_slice.ensures.within);
    }

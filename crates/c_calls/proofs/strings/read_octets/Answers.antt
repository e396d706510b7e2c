use Rattle.std.proofs.Common.{rules, arith}
use Rattle.dns_charstr.proofs.OctetSpellings.{spells_one_more}
use Rattle.c_calls.proofs.strings.read_octets.Goals as goal

pub loop-octet-preserved : goal.loop-octet-preserved
loop-octet-preserved c =
    let found = rw c.in-Some.is at c.in_ok-octet.ensures.reads in
    record {
      read = rw c.push.ensures.items (spells_one_more _ _ _ _ c.in-Some.octet c.loop-octet.invariant.read found.0);
      few = omega arith;
      within = search rules;
    }

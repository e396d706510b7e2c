use Rattle.std.proofs.Common.{arith}
use Rattle.finding_formats.specs.Octets.{json_octet}
use Rattle.finding_formats.proofs.PlainRuns.{plain_more}
use Rattle.finding_formats.proofs.octets.plain_end.Goals as goal

pub loop-end-preserved : goal.loop-end-preserved
loop-end-preserved c =
    let inv = c.loop-end.invariant in
    record {
      on = omega (arith, inv.on);
      within = omega (arith, c.loop-end-test.true);
      plain = plain_more json_octet c.args.octets.now c.args.start c.loop-end.end inv.on (omega (arith, c.loop-end-test.true)) (c.is_plain.ensures c.if-is_plain.true) inv.plain;
    }

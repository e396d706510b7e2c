use Rattle.std.proofs.Common.{refl}
use Rattle.std.proofs.Output.{writes_in_calls_single}
use Rattle.dns_zone.proofs.zonefile_fmt.simple.SimpleWriterFormatWriter.newline.Goals as goal

pub returns-clause-gives : goal.returns-clause-gives
returns-clause-gives g c = record {
  opens = refl;
  gives = λ past h. record {
    next = record { first = refl; blocks = h.blocks };
    wrote = writes_in_calls_single _ _ _ _ (c.in_ok-put_str.ensures.ok);
  };
}

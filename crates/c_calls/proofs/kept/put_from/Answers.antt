use Rattle.std.proofs.Common.{arith}
use Rattle.c_calls.proofs.PutTexts.{puts_part}
use Rattle.c_calls.proofs.kept.put_from.Goals as goal

pub returns : goal.returns
returns c = puts_part c.args.octets.now c.args.over.now c.put_over.new.over c.args.at (omega (arith, c.requires)) (omega (arith, c.requires)) c.put_over.ensures.put c.put_over.ensures.rest c.put_over.auto.over

use Rattle.std.proofs.Common.{arith}
use Rattle.zone_generate.proofs.DigitSteps.{digits_none}
use Rattle.zone_generate.proofs.number.write_digits.Goals as goal

pub loop-start-init : goal.loop-start-init
loop-start-init c = digits_none c.args.base c.args.is_upper c.args.number c.args.buffer.now (omega (arith, c.told-buffer))

use Rattle.std.proofs.Common.{arith}
use Rattle.zone_generate.proofs.DigitSteps.{none_passed}
use Rattle.zone_generate.proofs.number.hex_len.Goals as goal

pub loop-left-init : goal.loop-left-init
loop-left-init c = record { most = omega arith; passed = none_passed c.args.number }

use Rattle.std.proofs.Common.{◌≡◌, false, true, arith}
use Rattle.zone_serial.proofs.Orders.{opposite}
use Rattle.zone_serial.proofs.next.set_to.Goals as goal

not_true : false ≡ true → ⊥
not_true h = cc

pub returns-else-is_after-2-clause-set : goal.returns-else-is_after-2-clause-set
returns-else-is_after-2-clause-set c =
    opposite c.args.old c.args.number (omega (arith, c.ranges.old.fits)) (omega (arith, c.ranges.number.fits)) c.if-number-old.false (λ a. not_true (c.if-is_after.ensures.1 a)) (λ a. not_true (c.if-is_after-2.ensures.1 a))

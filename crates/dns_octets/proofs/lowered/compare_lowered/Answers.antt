use Rattle.std.proofs.Common.{arith, ◌∙◌}
use Rattle.dns_octets.proofs.Ordered.{order_end}
use Rattle.dns_octets.proofs.lowered.compare_lowered.Goals as goal

pub returns : goal.returns
returns c =
    c.cmp.ensures ∙ order_end c.args.left.now c.args.right.now c.loop-i.i (omega (arith, c.min-shared.ensures)) ∙ c.loop-i.invariant

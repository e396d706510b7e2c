use Rattle.std.proofs.Common.{◌≡◌, drop}
use Rattle.dns_octets.specs.Lowered.{lowered_order}
use Rattle.dns_octets.proofs.lowered.compare_lowered.Given as goal

abbrev pub invariant-loop-i : goal.invariant-loop-i
invariant-loop-i l = lowered_order (drop l.i l.left) (drop l.i l.right) ≡ lowered_order l.left l.right

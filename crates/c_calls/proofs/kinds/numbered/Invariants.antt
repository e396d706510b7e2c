use Rattle.std.proofs.Common.{◌≡◌, take}
use Rattle.c_calls.proofs.kinds.numbered.Given as goal

abbrev pub invariant-loop-octet : goal.invariant-loop-octet
invariant-loop-octet l = l.text.items ≡ take l.octet-index l.octet-items

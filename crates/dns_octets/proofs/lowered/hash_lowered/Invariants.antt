use Rattle.std.proofs.Common.{◌≡◌, fold, take}
use Rattle.std.specs.List.{flat_map}
use Rattle.std.specs.Hash as fed
use Rattle.dns_octets.specs.Lowered.{lowered}
use Rattle.dns_octets.proofs.lowered.hash_lowered.Given as goal

abbrev pub invariant-loop-octet : goal.invariant-loop-octet
invariant-loop-octet g l = l.state ≡ fold g.H.Hasher.write l.fn.state (flat_map fed.u8 (lowered (take l.octet-index l.octets)))

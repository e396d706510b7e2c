use Rattle.std.proofs.Common.{◌≡◌, ◌<◌, ◌*◌, take, map, slice_index}
use Rattle.std.specs.List.{AllByRecursion}
use Rattle.dns_codec.specs.Bits.{whole}
use Rattle.dns_codec.specs.declared.read.TheConstants.{VALUES16}
use Rattle.dns_codec.proofs.lanes16.read.Given as goal

abbrev pub invariant-loop-block : goal.invariant-loop-block
invariant-loop-block l = record {
  values : AllByRecursion (λ v. v < 16) (map (slice_index VALUES16) (take (l.block * 16 * 2) l.text));
  octets : take (l.block * 16) l.octets ≡ whole 4 (map (slice_index VALUES16) (take (l.block * 16 * 2) l.text));
}

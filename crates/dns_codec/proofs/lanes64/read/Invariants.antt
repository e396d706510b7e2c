use Rattle.std.proofs.Common.{◌≡◌, ◌<◌, ◌*◌, take, map, slice_index}
use Rattle.std.specs.List.{AllByRecursion}
use Rattle.dns_codec.specs.Bits.{whole}
use Rattle.dns_codec.specs.declared.read.TheConstants.{VALUES64}
use Rattle.dns_codec.proofs.lanes64.read.Given as goal

abbrev pub invariant-loop-block : goal.invariant-loop-block
invariant-loop-block l = record {
  values : AllByRecursion (λ v. v < 64) (map (slice_index VALUES64) (take (l.block * 4 * 4) l.text));
  octets : take (l.block * 4 * 3) l.octets ≡ whole 6 (map (slice_index VALUES64) (take (l.block * 4 * 4) l.text));
}

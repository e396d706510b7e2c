use Rattle.std.proofs.Common.{◌≡◌, ◌*◌, take, drop, map, slice_index}
use Rattle.dns_codec.specs.Base.{base16}
use Rattle.dns_codec.specs.Bits.{digits}
use Rattle.dns_codec.proofs.lanes16.put.Given as goal

abbrev pub invariant-loop-block : goal.invariant-loop-block
invariant-loop-block l = record {
  text : take (2 * (l.block * 16)) l.text ≡ map (slice_index base16.alphabet) (digits 4 (take (l.block * 16) l.octets));
  rest : drop (2 * (l.block * 16)) l.text ≡ drop (2 * (l.block * 16)) l.initial.text;
}

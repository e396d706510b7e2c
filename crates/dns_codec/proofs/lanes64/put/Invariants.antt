use Rattle.std.proofs.Common.{◌≡◌, ◌*◌, take, drop, map, slice_index}
use Rattle.dns_codec.specs.Base.{base64}
use Rattle.dns_codec.specs.Bits.{digits}
use Rattle.dns_codec.proofs.lanes64.put.Given as goal

abbrev pub invariant-loop-block : goal.invariant-loop-block
invariant-loop-block l = record {
  text : take (l.block * 4 * 4) l.text ≡ map (slice_index base64.alphabet) (digits 6 (take (l.block * 4 * 3) l.octets));
  rest : drop (l.block * 4 * 4) l.text ≡ drop (l.block * 4 * 4) l.initial.text;
}

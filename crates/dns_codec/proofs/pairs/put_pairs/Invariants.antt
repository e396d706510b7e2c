use Rattle.std.proofs.Common.{◌≡◌, ◌+◌, ◌*◌, ◌++◌, take, drop, map, slice_index}
use Rattle.dns_codec.specs.Base.{base16}
use Rattle.dns_codec.specs.Bits.{digits}
use Rattle.dns_codec.proofs.pairs.put_pairs.Given as goal

abbrev pub invariant-loop-place : goal.invariant-loop-place
invariant-loop-place l = record {
  text : take (l.at + 2 * l.place) l.text ≡ take l.at l.initial.text ++ map (slice_index base16.alphabet) (digits 4 (take l.place l.octets));
  rest : drop (l.at + 2 * l.place) l.text ≡ drop (l.at + 2 * l.place) l.initial.text;
}

use Rattle.std.proofs.Common.{◌≡◌, ℕ, List, ◌++◌, length}
use Rattle.std.specs.Prelude.{encode_utf8_all}
use Rattle.std.specs.Fmt.{HasWritten, IsPlainFormatter}
use Rattle.std.specs.Slice.Iter.{chunks_rest, chunks_size}
use Rattle.dns_symbol.specs.Printed.{text_of}
use Rattle.dns_symbol.proofs.form.write_octets.Given as goal

abbrev pub invariant-loop-block : goal.invariant-loop-block
invariant-loop-block g l =
    (goal.iterator-loop-block g).can_next l.block-iterator
    × (goal.iterator-loop-block g).is_finite l.block-iterator
    × (chunks_size l.block-iterator ≡ 64)
    × (length l.text ≡ 256)
    × (IsPlainFormatter l.initial.f → (done : List ℕ) × HasWritten g.W.Write.write_str_gives l.initial.f done l.f
    × (done ++ encode_utf8_all (text_of g.F.Form.is_escape (chunks_rest l.block-iterator)) ≡ encode_utf8_all (text_of g.F.Form.is_escape l.octets)))

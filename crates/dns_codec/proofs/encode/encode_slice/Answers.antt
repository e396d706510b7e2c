use Rattle.std.proofs.Common.{◌≡◌, ◌<◌, ◌-◌, ◌++◌, map, slice_index, refl, ap, arith, length}
use Rattle.dns_codec.specs.Bits.{digits}
use Rattle.dns_codec.specs.Base.{encoded}
use Rattle.dns_codec.proofs.Fitting.{digits_over, digits_fit}
use Rattle.dns_codec.proofs.Texts.{length_parts, written_parts}
use Rattle.dns_codec.proofs.encode.encode_slice.Goals as goal

pub returns-then-octets-BITS : goal.returns-then-octets-BITS
returns-then-octets-BITS g c =
    let low = g.met.K.Encoding.shape.low in
    let pos : 0 < g.K.Encoding.BITS = omega arith in
    let parts = length_parts _ g.K.Encoding.base.alphabet (digits g.K.Encoding.BITS c.args.octets.now) c.padding_of.result.now c.padding_of.ensures in
    let marks = ap length c.as_bytes-padding.ensures.value in
    let few = c.if-padding-text.false in
    let over = digits_over g.K.Encoding.BITS (length c.args.text.now - length c.as_bytes-padding.result.now) c.args.octets.now pos (rw c.BITS.ensures at c.if-octets-BITS.true) in
    (omega (arith, parts, marks, few, over), refl)

pub put_octets-requires : goal.put_octets-requires
put_octets-requires g c =
    let low = g.met.K.Encoding.shape.low in
    let pos : 0 < g.K.Encoding.BITS = omega arith in
    let few = c.if-padding-text.false in
    let bits = rw c.BITS.ensures at c.if-octets-BITS.false in
    let within = digits_fit g.K.Encoding.BITS 0 (length c.args.text.now - length c.as_bytes-padding.result.now) c.args.octets.now pos (omega (arith, bits)) in
    let end = c.put_block-end.ensures.len in
    let same = c.put_block-end.auto.text in
    omega (arith, few, within, end, same)

pub returns : goal.returns
returns g c =
    let marks = c.as_bytes-padding.ensures.value in
    let is : encoded g.K.Encoding.base c.args.octets.now ≡ map (slice_index g.K.Encoding.base.alphabet) (digits g.K.Encoding.BITS c.args.octets.now) ++ c.as_bytes-padding.result.now =
    rw marks c.padding_of.ensures in
    let block = c.put_block-end.ensures in
    written_parts _ g.K.Encoding.base.alphabet (digits g.K.Encoding.BITS c.args.octets.now) c.as_bytes-padding.result.now c.args.text.now c.put_block-end.new.text c.put_octets.new.text
    c.put_block-end.result c.put_octets.result is
    block.len block.text block.rest c.put_octets.ensures.len c.put_octets.ensures.text c.put_octets.ensures.rest

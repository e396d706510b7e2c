use Rattle.std.proofs.Common.{◌∙◌, sym, arith}
use Rattle.dns_codec.proofs.Texts.{unpadded, no_padding, one_padding, two_padding}
use Rattle.dns_codec.proofs.encode.padding_of.Goals as goal

pub returns-then-not-rules : goal.returns-then-not-rules
returns-then-not-rules g c =
    unpadded g.K.Encoding.base g.K.Encoding.BITS c.args.octets.now g.met.K.Encoding.known g.met.K.Encoding.shape.bits_are (sym c.rules.ensures.is_padded ∙ c.if-not-rules.true)

pub returns-in-0 : goal.returns-in-0
returns-in-0 g c =
    no_padding g.K.Encoding.base g.K.Encoding.BITS c.args.octets.now g.met.K.Encoding.known g.met.K.Encoding.shape.bits_are (sym c.rules.ensures.is_padded ∙ c.if-not-rules.false) (let h =
    c.in-0.is in omega arith)

pub returns-in-1 : goal.returns-in-1
returns-in-1 g c =
    two_padding g.K.Encoding.base g.K.Encoding.BITS c.args.octets.now g.met.K.Encoding.known g.met.K.Encoding.shape.bits_are (sym c.rules.ensures.is_padded ∙ c.if-not-rules.false) (let h =
    c.in-1.is in omega arith)

pub returns-in_default : goal.returns-in_default
returns-in_default g c = one_padding g.K.Encoding.base g.K.Encoding.BITS c.args.octets.now g.met.K.Encoding.known g.met.K.Encoding.shape.bits_are (sym c.rules.ensures.is_padded
    ∙ c.if-not-rules.false) (omega arith)

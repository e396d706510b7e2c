use Rattle.std.proofs.Common.{◌∙◌, sym}
use Rattle.std.proofs.Output.{writes_in_calls_nil}
use Rattle.dns_codec.specs.Bits.{digits}
use Rattle.dns_codec.proofs.Texts.{ascii_of, ok_after}
use Rattle.dns_codec.proofs.Putting.{characters_ascii}
use Rattle.dns_codec.proofs.encode.write_few.Goals as goal

pub ascii_text-requires : goal.ascii_text-requires
ascii_text-requires g c =
    let text = characters_ascii g.K.Encoding.base.alphabet (digits g.K.Encoding.BITS c.args.octets.now) (ascii_of g.K.Encoding.base g.met.K.Encoding.known) in
    rw c.put_block-len.ensures.text text

pub returns : goal.returns
returns g c =
    let text = c.ascii_text.ensures ∙ c.put_block-len.ensures.text in
    let took = g.W.Write.write_str_gives in
    ok_after took c.write_str.result c.args.f.now c.args.f.now c.write_str.new.self _ _ _ (sym text) (writes_in_calls_nil took c.args.f.now) c.write_str.ensures.ok

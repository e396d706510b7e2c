use Rattle.std.proofs.Common.{◌≡◌, ◌∙◌, rules, ap, take, drop, length, ◌++◌}
use Rattle.std.proofs.lemmas.Str.{IsUtf8-from_ascii}
use Rattle.std.proofs.Math.Seq.{take-append_seam}
use Rattle.dns_codec.specs.Base.{encoded}
use Rattle.dns_codec.proofs.Texts.{encoded_ascii}
use Rattle.dns_codec.proofs.encode.encode_block.Goals as goal

pub from_utf8_unchecked-requires : goal.from_utf8_unchecked-requires
from_utf8_unchecked-requires g c =
    let size : length c.encode_slice.new.text ≡ c.resize.new.self.len = search rules in
    let kept : take c.resize.new.self.len (c.encode_slice.new.text ++ drop (length c.encode_slice.new.text) c.resize.new.self.items) ≡ c.encode_slice.new.text = rw (← size) (take-append_seam _ _) in
    let text : c.truncate.new.self.items ≡ encoded g.K.Encoding.base c.args.octets.now =
    c.truncate.ensures.items ∙ ap (λ xs. take c.in_ok-len.len xs) kept ∙ c.in_ok-len.ensures.1 in
    IsUtf8-from_ascii _ (rw text (encoded_ascii g.K.Encoding.base c.args.octets.now g.met.K.Encoding.known))

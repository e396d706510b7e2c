use Rattle.std.proofs.Common.{arith}
use Rattle.std.proofs.lemmas.Grind.{common_steps}
use Rattle.dns_codec.specs.Base.{base32hex}
use Rattle.c_calls.proofs.ToldTexts.{told}
use Rattle.c_calls.proofs.Lengths.{known32}
use Rattle.c_calls.proofs.codecs.base32hex_read.Goals as goal

pub returns : goal.returns
returns c =
    told base32hex known32 c.args.text.now c.args.octets.now c.decode_slice_hex-read.new.octets c.decode_slice_hex-read.result _ _ c.report_read.result c.report_read.new.outcome
    (omega arith) (omega arith) (grind (arith, common_steps)) (grind (arith, common_steps)) c.decode_slice_hex-read.ensures.read c.decode_slice_hex-read.ensures.refused
    c.report_read.ensures.some c.report_read.ensures.none

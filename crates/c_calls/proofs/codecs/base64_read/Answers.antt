use Rattle.std.proofs.Common.{arith}
use Rattle.std.proofs.lemmas.Grind.{common_steps}
use Rattle.dns_codec.specs.Base.{base64}
use Rattle.c_calls.proofs.ToldTexts.{told}
use Rattle.c_calls.proofs.Lengths.{known64}
use Rattle.c_calls.proofs.codecs.base64_read.Goals as goal

pub returns : goal.returns
returns c =
    told base64 known64 c.args.text.now c.args.octets.now c.decode_slice-read.new.octets c.decode_slice-read.result _ _ c.report_read.result c.report_read.new.outcome
    (omega arith) (omega arith) (grind (arith, common_steps)) (grind (arith, common_steps)) c.decode_slice-read.ensures.read c.decode_slice-read.ensures.refused
    c.report_read.ensures.some c.report_read.ensures.none

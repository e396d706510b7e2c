use Rattle.std.proofs.Common.{sym, arith}
use Rattle.dns_codec.specs.Base.{base32hex, encoded}
use Rattle.c_calls.proofs.ToldTexts.{given}
use Rattle.c_calls.proofs.Lengths.{encoded32_length}
use Rattle.c_calls.proofs.codecs.base32hex_print.Goals as goal

pub returns : goal.returns
returns c =
    let few = c.if-octets-gt-MOST.false in
    record {
      short = λ _.
          given (encoded base32hex c.args.octets.now) c.args.text.now c.encode_slice_hex.new.text c.encode_slice_hex.result _ c.report_written.result c.report_written.new.outcome
          c.encode_slice_hex.ensures c.encode_slice_hex.auto.text (sym (encoded32_length c.args.octets.now)) c.report_written.ensures.ok c.report_written.ensures.short c.report_written.ensures.told;
      long = λ many. absurd (omega (arith, many, few));
    }

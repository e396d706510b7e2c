use Rattle.std.proofs.Common.{sym, arith}
use Rattle.dns_codec.specs.Base.{base16, encoded}
use Rattle.c_calls.proofs.ToldTexts.{given}
use Rattle.c_calls.proofs.Lengths.{encoded16_length}
use Rattle.c_calls.proofs.codecs.base16_print.Goals as goal

pub returns : goal.returns
returns c =
    let few = c.if-octets-gt-MOST.false in
    record {
      short = λ _.
          given (encoded base16 c.args.octets.now) c.args.text.now c.encode_slice.new.text c.encode_slice.result _ c.report_written.result c.report_written.new.outcome
          c.encode_slice.ensures c.encode_slice.auto.text (sym (encoded16_length c.args.octets.now)) c.report_written.ensures.ok c.report_written.ensures.short c.report_written.ensures.told;
      long = λ many. absurd (omega (arith, many, few));
    }

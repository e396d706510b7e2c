use Rattle.std.proofs.Common.{false, [], ◌++◌, ◌+◌, drop, get_or, refl, arith}
use Rattle.std.specs.Fmt.{decimal}
use Rattle.zone_edit.specs.declared.serial.SerialSpelling.TheVariants.{Decimal}
use Rattle.zone_edit.specs.declared.serial.SoaEdit.{SoaEdit}
use Rattle.zone_edit.specs.Serials.{serial_spans, serial_texts, spelled_token}
use Rattle.zone_edit.specs.Tokens.{span_between, spans_of, texts_of}
use Rattle.zone_edit.proofs.Pushing.{continues_next, spans_next, texts_next}
use Rattle.zone_edit.proofs.Soas.{error_next, next_spans, next_texts}
use Rattle.zone_edit.proofs.serial.push_soas.Goals as goal

abbrev no_soa : SoaEdit
no_soa = record { rdata = record { ref_ptr = (0, 0); now = [] }; is_included = false; serial = spelled_token (span_between 0 0) Decimal }

pub loop-soa-preserved : goal.loop-soa-preserved
loop-soa-preserved g c =
    let soas = c.args.soas.now in
    let i = c.loop-soa.soa-index in
    let s = get_or soas i no_soa in
    let serial = c.args.serial in
    let first = c.args.edits.now.items in
    let old = c.loop-soa.edits.items in
    let new = c.push_soa.new.edits.items in
    let span = s.serial.span in
    let text = decimal serial in
    let lt = c.loop-soa-test.true in
    let p = c.in_ok-push_soa.ensures.ok in
    record {
      counted = omega (arith, c.loop-soa.invariant.counted);
      spans = spans_next span text old new p (serial_spans (drop (i + 1) soas)) (serial_spans (drop i soas)) (spans_of first ++ serial_spans soas)
          (next_spans soas i s no_soa lt refl) c.loop-soa.invariant.spans;
      texts = texts_next span text old new p (serial_texts serial (drop (i + 1) soas)) (serial_texts serial (drop i soas)) (texts_of first ++ serial_texts serial soas)
          (next_texts soas i s no_soa lt refl serial) c.loop-soa.invariant.texts;
      continues = continues_next span text old new p first c.loop-soa.invariant.continues;
      error = error_next soas i s no_soa lt refl c.loop-soa.index c.in_ok-push_soa.ensures.fits c.loop-soa.invariant.error;
    }

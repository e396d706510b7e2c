use Rattle.std.proofs.Common.{◌≡◌, ◌++◌, drop}
use Rattle.zone_edit.specs.Serials.{edit_error, serial_spans, serial_texts}
use Rattle.zone_edit.specs.Tokens.{Continues, spans_of, texts_of}
use Rattle.zone_edit.proofs.serial.push_soas.Given as goal

abbrev pub invariant-loop-soa : goal.invariant-loop-soa
invariant-loop-soa g l = record {
  counted : l.index ≡ l.soa-index;
  spans : spans_of l.edits.items ++ serial_spans (drop l.soa-index l.soas) ≡ spans_of l.initial.edits.items ++ serial_spans l.soas;
  texts : texts_of l.edits.items ++ serial_texts l.serial (drop l.soa-index l.soas) ≡ texts_of l.initial.edits.items ++ serial_texts l.serial l.soas;
  continues : Continues l.initial.edits.items l.edits.items;
  error : edit_error l.index (drop l.soa-index l.soas) ≡ edit_error 0 l.soas;
}

use Rattle.std.proofs.Common.{List, ℕ, None, drop}
use Rattle.rdata.specs.Printing.{printed_parts}
use Rattle.rdata.specs.RestKinds.{rest_form}
use Rattle.rdata.specs.Wire.{BeginsWithFields}
use Rattle.zone_record.proofs.PrintedTokens.{HasPrinted}
use Rattle.zone_record.proofs.rdata_print.write_parts.Given as goal

abbrev pub invariant-loop-field : goal.invariant-loop-field
invariant-loop-field g l = record {
  printed : HasPrinted g.F.FormatWriter.blocks g.F.FormatWriter.step_gives l.initial.p (printed_parts l.shape.fields.now l.shape.rest l.octets) (printed_parts (drop l.field-index l.shape.fields.now) l.shape.rest l.rest) l.p;
  begins : (back : List ℕ) × BeginsWithFields (drop l.field-index l.shape.fields.now) l.rest back × (rest_form None l.shape.rest).is_wire back;
}

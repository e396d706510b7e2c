use Rattle.std.proofs.Common.{◌∙◌, sym}
use Rattle.rdata.proofs.Textless.{text_of}
use Rattle.zone_record.proofs.rdata_print.write_data.Goals as goal

pub write_parts-requires : goal.write_parts-requires
write_parts-requires g c = text_of c.args.shape.now c.args.octets.now c.requires (sym c.has_no_text.ensures ∙ c.if-has_no_text.false)

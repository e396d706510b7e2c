use Rattle.zone_stream.proofs.PrintedTexts.{text_is_read}
use Rattle.zone_stream.proofs.laws.printed_texts_are_read.Goals as goal

pub returns : goal.returns
returns g c = text_is_read c.args.records.now c.all_hold_values.ensures c.whole_records_are_independent.ensures c.texts_are_read_entry_by_entry.ensures.all

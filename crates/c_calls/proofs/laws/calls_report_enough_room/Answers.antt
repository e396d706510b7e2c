use Rattle.c_calls.proofs.DataRoom.{data_read, entry_generated}
use Rattle.c_calls.proofs.NextRoom.{record_filled}
use Rattle.c_calls.proofs.RoomSaid.{data_printed, form_written, name_printed, name_read, octets_printed, octets_read, string_printed, string_read, text_decoded, tokens_returned, word_filled}
use Rattle.c_calls.proofs.ValueRooms.{record_printed, word_read}
use Rattle.c_calls.proofs.laws.calls_report_enough_room.Goals as goal

pub returns : goal.returns
returns c = record {
  prints_octets = octets_printed;
  decodes = text_decoded;
  prints_string = string_printed;
  reads_string = string_read;
  reads_octet_string = octets_read;
  prints_name = name_printed;
  reads_name = name_read;
  prints_word = word_filled;
  prints_data = data_printed;
  canonical = form_written;
  reads_data = data_read;
  reads_word = word_read;
  prints_record = record_printed;
  generates = entry_generated;
  next_record = record_filled;
  next_entry = λ text cursor are. tokens_returned text are cursor;
}

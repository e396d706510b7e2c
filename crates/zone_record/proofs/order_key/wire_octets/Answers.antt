use Rattle.zone_record.proofs.KeyRooms.{name_room}
use Rattle.zone_record.proofs.order_key.wire_octets.Goals as goal

pub returns-clause-room : goal.returns-clause-room
returns-clause-room g c = name_room c.as_slice.result.now _ c.as_slice.ensures.len c.as_slice.ensures.is_name

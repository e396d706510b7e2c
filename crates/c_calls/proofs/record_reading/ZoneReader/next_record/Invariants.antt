use Rattle.std.proofs.Common.{length}
use Rattle.dns_octets.specs.Room.{exactly}
use Rattle.zone_reader.specs.Source.{parts_after_unread}
use Rattle.zone_reader.proofs.NextRecords.{PassesDirectives}
use Rattle.c_calls.specs.Capacity.{as_reader}
use Rattle.c_calls.proofs.record_reading.ZoneReader.next_record.Given as goal

abbrev pub invariant-directives : goal.invariant-directives
invariant-directives g l = PassesDirectives (exactly g.row.N) (as_reader l.fn.self) l.fn.target.items (as_reader l.self) l.target.items

abbrev pub decreases-directives : goal.decreases-directives
decreases-directives g l = length (parts_after_unread l.self.source)

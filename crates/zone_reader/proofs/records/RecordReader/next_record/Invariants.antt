use Rattle.std.proofs.Common.{length}
use Rattle.zone_reader.specs.Source.{parts_after_unread}
use Rattle.zone_reader.proofs.NextRecords.{PassesDirectives}
use Rattle.zone_reader.proofs.records.RecordReader.next_record.Given as goal

abbrev pub invariant-directives : goal.invariant-directives
invariant-directives g l = PassesDirectives g.B.OctetsBuilder.room l.fn.self (g.B.AsOctets.octets l.fn.target) l.self (g.B.AsOctets.octets l.target)

abbrev pub decreases-directives : goal.decreases-directives
decreases-directives g l = length (parts_after_unread l.self.source)

use Rattle.std.proofs.Common.{refl}
use Rattle.zone_reader.proofs.NextRecords.{passes_none, passes_one}
use Rattle.zone_reader.proofs.records.RecordReader.next_record.Goals as goal

pub directives-init : goal.directives-init
directives-init g c = passes_none g.B.OctetsBuilder.room c.args.self.now (g.B.AsOctets.octets c.args.target.now)

pub directives-preserved : goal.directives-preserved
directives-preserved g c =
    let octets = g.B.AsOctets.octets in
    let passed = passes_one g.B.OctetsBuilder.room c.args.self.now c.directives.self c.next_entry-given.new.self (octets c.args.target.now) (octets c.directives.target) (octets c.next_entry-given.new.target)
    c.directives.invariant c.next_entry-given.result (c.if-not-is_directive.ensures.0 refl) c.next_entry-given.ensures in
    passed.0

pub directives-smaller : goal.directives-smaller
directives-smaller g c =
    let octets = g.B.AsOctets.octets in
    let passed = passes_one g.B.OctetsBuilder.room c.args.self.now c.directives.self c.next_entry-given.new.self (octets c.args.target.now) (octets c.directives.target) (octets c.next_entry-given.new.target)
    c.directives.invariant c.next_entry-given.result (c.if-not-is_directive.ensures.0 refl) c.next_entry-given.ensures in
    passed.1

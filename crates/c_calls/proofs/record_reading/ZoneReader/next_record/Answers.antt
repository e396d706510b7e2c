use Rattle.std.proofs.Common.{refl}
use Rattle.dns_octets.specs.Room.{exactly}
use Rattle.zone_reader.proofs.NextRecords.{passes_none, passes_one}
use Rattle.c_calls.specs.Capacity.{as_reader}
use Rattle.c_calls.proofs.ZoneReads.{stops_in}
use Rattle.c_calls.proofs.record_reading.ZoneReader.next_record.Goals as goal

pub directives-init : goal.directives-init
directives-init g c = passes_none (exactly g.row.N) (as_reader c.args.self.now) c.args.target.now.items

pub directives-preserved : goal.directives-preserved
directives-preserved g c =
    let passed = passes_one (exactly g.row.N) (as_reader c.args.self.now) (as_reader c.directives.self) (as_reader c.next_entry-read.new.self) c.args.target.now.items c.directives.target.items c.next_entry-read.new.target.items
    c.directives.invariant c.next_entry-read.result.given (c.if-not-is_directive.ensures.0 refl) c.next_entry-read.ensures.0 in
    passed.0

pub directives-smaller : goal.directives-smaller
directives-smaller g c =
    let passed = passes_one (exactly g.row.N) (as_reader c.args.self.now) (as_reader c.directives.self) (as_reader c.next_entry-read.new.self) c.args.target.now.items c.directives.target.items c.next_entry-read.new.target.items
    c.directives.invariant c.next_entry-read.result.given (c.if-not-is_directive.ensures.0 refl) c.next_entry-read.ensures.0 in
    passed.1

pub returns-then-not-is_directive : goal.returns-then-not-is_directive
returns-then-not-is_directive g c =
    let next = c.next_entry-read in
    stops_in g.row.N next.result.lacks (as_reader c.args.self.now) (as_reader c.directives.self) (as_reader next.new.self) c.args.target.now.items c.directives.target.items next.new.target.items next.result.given c.directives.invariant
    (λ is. let no = c.if-not-is_directive.ensures.1 is in cc) next.ensures

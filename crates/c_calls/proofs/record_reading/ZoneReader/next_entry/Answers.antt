use Rattle.std.proofs.Common.{ap, ◌∙◌, Ok, refl, subst, sym}
use Rattle.dns_octets.specs.Room.{exactly}
use Rattle.zone_reader.specs.EntryReading.{ReadsZoneEntry}
use Rattle.zone_reader.specs.Source.{entry_end, unread_entry_tokens}
use Rattle.c_calls.specs.Capacity.{as_reader}
use Rattle.c_calls.proofs.ZoneReads.{cut_in, read_in}
use Rattle.c_calls.proofs.record_reading.ZoneReader.next_entry.Goals as goal

pub returns-in-Ok : goal.returns-in-Ok
returns-in-Ok g c =
    let me = as_reader c.args.self.now in
    read_in g.row.N c.read_lacks-lacks.result me (record { octets = me.octets; source = c.finish.new.self; state = c.read_entry-read.new.state }) c.begin.new.self c.read_entry-read.new.source c.finish.new.self
    c.args.target.now.items c.read_entry-read.new.target.items c.begin.result c.in-Ok-Some.start c.finish.result c.read_entry-read.result c.read_lacks-lacks.ensures c.begin.ensures
    (c.in-Ok-Some.is ∙ ap Ok c.in-Ok-Some.field-0-is) c.read_entry-read.ensures.reads c.read_entry-read.ensures.end c.finish.ensures refl c.in-Ok.field-0 c.in-Ok.is refl

pub returns-in-Err-finish : goal.returns-in-Err-finish
returns-in-Err-finish g c =
    let me = as_reader c.args.self.now in
    let old = c.args.target.now.items in
    let new = c.read_entry-read.new.target.items in
    let passed = c.pass_fault-in-Err-finish in
    let begun = c.begin.new.self in
    cut_in g.row.N c.read_lacks-lacks.result me (as_reader passed.new.self) begun c.read_entry-read.new.source c.finish.new.self old new c.begin.result c.in-Ok-Some.start c.finish.result c.read_entry-read.result
    c.read_lacks-lacks.ensures c.begin.ensures (c.in-Ok-Some.is ∙ ap Ok c.in-Ok-Some.field-0-is)
    (subst (λ s. ReadsZoneEntry (exactly g.row.N) c.in-Ok-Some.start.begins_blank (entry_end begun).at (unread_entry_tokens begun) me.state old c.read_entry-read.result s new) (sym passed.ensures.state) c.read_entry-read.ensures.reads)
    c.read_entry-read.ensures.end c.finish.ensures (ap (λ o. o.now) passed.ensures.octets) c.in-Err-finish.fault c.in-Err-finish.is passed.ensures.behind passed.result passed.ensures.error

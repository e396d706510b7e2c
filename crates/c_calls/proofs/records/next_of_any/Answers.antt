use Rattle.std.proofs.Common.{◌≡◌, [], inr, arith, refl, rules}
use Rattle.dns_octets.specs.Room.{exactly}
use Rattle.c_calls.specs.Capacity.{as_reader}
use Rattle.c_calls.proofs.KeptNames.{closed, included, loaded, something}
use Rattle.c_calls.proofs.records.next_of_any.Goals as goal

pub report_result-requires : goal.report_result-requires
report_result-requires c =
    let none : c.new-data.result.items ≡ [] = search rules in
    let all : c.next_record-read.new.target.items ≡ c.as_slice.result.now = search rules in
    let reads = c.next_record-read.ensures.0 in
    record { closed = closed _ _ _ _ _ _ reads; some = something _ _ _ _ _ _ reads; last = reads.is_last; included = included _ _ _ _ _ (rw (none, all) at reads) }

pub returns : goal.returns
returns c =
    let none : c.new-data.result.items ≡ [] = search rules in
    let all : c.next_record-read.new.target.items ≡ c.as_slice.result.now = search rules in
    let read = c.next_record-read.ensures.1 c.if-read.false (exactly 65535) in
    let first = c.starting_at-reader.result in
    let starts = c.starting_at-reader.ensures in
    inr (
      c.load_state.new.state,
      loaded c.args.zone.now c.load_state.result c.load_state.new.state c.if-not-load_state.false c.load_state.ensures,
      omega (arith, c.if-zone-text.false),
      record {
        before = record { octets = first.octets; source = first.source; state = c.load_state.new.state };
        after = as_reader c.next_record-read.new.self;
        given = c.next_record-read.result.given;
        octets = c.as_slice.result.now;
        starts = record { octets_is = starts.octets_is; parts = starts.parts; closed = starts.closed; began = starts.began; taken = starts.taken; state_is = refl };
        reads = rw (none, all) at read;
        tells = c.report_result.ensures;
      },
    )

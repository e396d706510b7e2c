use Rattle.std.proofs.Common.{◌≡◌, ◌≤◌, ◌+◌, ◌-◌, ℕ, List, length, drop, take, ap, sym, ◌∙◌, subst, arith}
use Rattle.std.specs.Prelude.{Some, Result, Ok}
use Rattle.dns_lexer.specs.Pieces.{AreOctets}
use Rattle.dns_lexer.specs.CursorStates.{blank_at}
use Rattle.zone_reader.specs.Tape.{FillsLine}
use Rattle.zone_reader.specs.declared.entry.ParsedEntry.{ParsedEntry}
use Rattle.zone_stream.specs.Adding.{after_stop, with_scanned_len}
use Rattle.zone_stream.specs.Blocks.{Blocks, BuffersSuffix, place_of_next}
use Rattle.zone_stream.specs.Yielding.{ReadsNext, ReadsPending, result_by}
use Rattle.zone_stream.specs.declared.refusal.BlockRefusal.{BlockRefusal}
use Rattle.zone_stream.proofs.Gives.{gives_line, held_line}
use Rattle.zone_stream.proofs.Held.{all_after}
use Rattle.zone_stream.proofs.Stops.{read_same}
use Rattle.zone_stream.proofs.blocks.BlockReader.next_entry.Goals as goal

pub returns-in_default : goal.returns-in_default
returns-in_default g c =
    let octets = g.B.AsOctets.octets in
    let slowly = c.next_slowly-in_default in
    subst (λ (b : Blocks). (all : List ℕ) → BuffersSuffix all b → ReadsNext g.B.OctetsBuilder.room all b c.args.state.now (octets c.args.target.now) slowly.result slowly.new.self slowly.new.state (octets slowly.new.target)) c.self-2.view_is slowly.ensures

pub returns-then-count-self : goal.returns-then-count-self
returns-then-count-self g c =
    let octets = g.B.AsOctets.octets in
    let slowly = c.next_slowly-then-count-self in
    subst (λ (b : Blocks). (all : List ℕ) → BuffersSuffix all b → ReadsNext g.B.OctetsBuilder.room all b c.args.state.now (octets c.args.target.now) slowly.result slowly.new.self slowly.new.state (octets slowly.new.target)) c.self-2.view_is slowly.ensures

pub pass_line-requires : goal.pass_line-requires
pass_line-requires g c =
    let me = c.args.self.now in
    let rest : c.as_octets-rest.result.now ≡ drop me.next me.octets =
    c.as_octets-rest.ensures.same ∙ all_after c.self-2.inside.next c.as_slice.result.now ∙ ap (drop c.self-2.inside.next) c.as_slice.ensures.value ∙ ap (λ (b : Blocks). drop b.next b.octets) c.self-2.view_is in
    let within : me.next ≤ length me.octets = subst (λ (b : Blocks). b.next ≤ length b.octets) c.self-2.view_is c.self-2.invariant.0 in
    let fills : FillsLine (drop me.next me.octets) c.fill_line.new.tape.items c.in-Some.count = subst (λ l. FillsLine l c.fill_line.new.tape.items c.in-Some.count) rest c.in-Some.ensures.some in
    subst (λ (b : Blocks). b.next + c.in-Some.count ≤ length b.octets) (sym c.self-2.view_is) (held_line me within c.fill_line.new.tape.items c.in-Some.count fills)

pub returns : goal.returns
returns g c = λ all h.
    let octets = g.B.AsOctets.octets in
    let room = g.B.OctetsBuilder.room in
    let me = c.args.self.now in
    let count = c.in-Some.count in
    let read = c.read_spans-read in
    let left : take (length c.as_slice.result.now - c.self-2.inside.next) (drop c.self-2.inside.next c.as_slice.result.now) ≡ drop me.next me.octets =
    all_after c.self-2.inside.next c.as_slice.result.now ∙ ap (drop c.self-2.inside.next) c.as_slice.ensures.value ∙ ap (λ (b : Blocks). drop b.next b.octets) c.self-2.view_is in
    let rest : c.as_octets-rest.result.now ≡ drop me.next me.octets = c.as_octets-rest.ensures.same ∙ left in
    let within : me.next ≤ length me.octets = subst (λ (b : Blocks). b.next ≤ length b.octets) c.self-2.view_is c.self-2.invariant.0 in
    let fills : FillsLine (drop me.next me.octets) c.fill_line.new.tape.items count = subst (λ l. FillsLine l c.fill_line.new.tape.items count) rest c.in-Some.ensures.some in
    let short : count ≤ me.limit = omega (arith, c.if-count-self.false, ap (λ (b : Blocks). b.limit) c.self-2.view_is) in
    let reads : ReadsPending room me (Ok count) c.args.state.now (octets c.args.target.now) read.result read.new.state (octets read.new.target) =
    read_same room (take count c.as_octets-rest.result.now) (take count (drop me.next me.octets)) (blank_at c.as_octets-rest.result.now 0) (blank_at (drop me.next me.octets) 0) c.place-at.result (place_of_next me) c.args.state.now (octets c.args.target.now)
    read.result read.new.state (octets read.new.target) (ap (take count) rest) (ap (λ l. blank_at l 0) rest) c.place-at.ensures.place read.ensures in
    subst (λ (x : Result ParsedEntry BlockRefusal). ReadsNext room all me c.args.state.now (octets c.args.target.now) (Some x) c.pass_line.new.self read.new.state (octets read.new.target))
    (sym (◌∙◌ {b = result_by {E = ℕ} c.place-at.result (Ok count) read.result} c.result_by.ensures (ap (λ p. result_by {E = ℕ} p (Ok count) read.result) c.place-at.ensures.place)))
    (gives_line me within c.fill_line.new.tape.items count fills room all c.pass_line.new.self c.args.state.now read.new.state (octets c.args.target.now) (octets read.new.target) read.result h
    (ap (λ (b : Blocks). b.in_bad_line) (sym c.self.view_is) ∙ c.if-self.false) (subst AreOctets left c.as_octets-rest.ensures.octets) (c.is_put_off.ensures.some c.if-is_put_off.false) short reads
    (c.pass_line.ensures ∙ ap (λ (b : Blocks). after_stop (with_scanned_len b 0) (Ok count)) c.self-2.view_is))

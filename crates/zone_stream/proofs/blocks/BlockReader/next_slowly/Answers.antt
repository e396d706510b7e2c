use Rattle.std.proofs.Common.{◌≤◌, ℕ, ap, sym, ◌∙◌, subst}
use Rattle.std.specs.Prelude.{Some, Option, Result, Err}
use Rattle.dns_lexer.specs.declared.pieces.Fault.{Fault}
use Rattle.zone_reader.specs.declared.entry.ParsedEntry.{ParsedEntry}
use Rattle.zone_stream.specs.Adding.{IsHeldStop, after_stop, found_len}
use Rattle.zone_stream.specs.Yielding.{ReadsNext, result_by}
use Rattle.zone_stream.specs.declared.refusal.BlockRefusal.{BlockRefusal}
use Rattle.zone_stream.proofs.Gives.{can_move, ends_long, gives_none, gives_some, held_stop, not_long}
use Rattle.zone_stream.proofs.blocks.BlockReader.next_slowly.Goals as goal

pub returns-then-is_long : goal.returns-then-is_long
returns-then-is_long g c = λ all h.
    let octets = g.B.AsOctets.octets in
    let room = g.B.OctetsBuilder.room in
    subst (λ (e : BlockRefusal). ReadsNext room all c.args.self.now c.args.state.now (octets c.args.target.now) (Some (Err e)) c.end_at_long.new.self c.args.state.now (octets c.args.target.now)) (sym c.end_at_long.ensures.refusal)
    (ends_long room all c.args.self.now c.skip_line.new.self c.find_entry-found.new.self c.end_at_long.new.self c.args.state.now (octets c.args.target.now) h c.skip_line.ensures c.end_at_long.ensures.ends c.find_entry-found.result
    c.find_entry-found.ensures (c.is_long.ensures.0 c.if-is_long.true))

pub returns-in_default : goal.returns-in_default
returns-in_default g c = λ all h.
    let f = c.find_entry-found.new.self in
    let short = subst (λ (o : Option (Result ℕ Fault)). found_len f o ≤ f.limit) c.in_default.is (not_long f.limit (found_len f c.find_entry-found.result) c.is_long.result c.is_long.ensures c.if-is_long.false) in
    gives_none g.B.OctetsBuilder.room all c.args.self.now c.skip_line.new.self f c.drop_read.new.self c.args.state.now (g.B.AsOctets.octets c.args.target.now) h c.skip_line.ensures c.in_default.ensures short c.drop_read.ensures

pub read_stop-read-requires : goal.read_stop-read-requires
read_stop-read-requires g c = let n = c.in-Some.ensures.finds in held_stop c.find_entry-found.new.self n.1 n.0 c.in-Some.stop n.3

pub pass-requires : goal.pass-requires
pass-requires g c =
    let n = c.in-Some.ensures.finds in
    subst (λ b. IsHeldStop b c.in-Some.stop) (sym c.read_stop-read.ensures.same) (held_stop c.find_entry-found.new.self n.1 n.0 c.in-Some.stop n.3)

pub result_by-requires : goal.result_by-requires
result_by-requires g c = let n = c.in-Some.ensures.finds in can_move c.find_entry-found.new.self n.1 n.0 c.in-Some.stop c.place-at.result n.3 c.place-at.ensures.room

pub returns : goal.returns
returns g c = λ all h.
    let octets = g.B.AsOctets.octets in
    let room = g.B.OctetsBuilder.room in
    let f = c.find_entry-found.new.self in
    let read = c.read_stop-read.result in
    let short = subst (λ (o : Option (Result ℕ Fault)). found_len f o ≤ f.limit) c.in-Some.is (not_long f.limit (found_len f c.find_entry-found.result) c.is_long.result c.is_long.ensures c.if-is_long.false) in
    subst (λ (x : Result ParsedEntry BlockRefusal). ReadsNext room all c.args.self.now c.args.state.now (octets c.args.target.now) (Some x) c.pass.new.self c.read_stop-read.new.state (octets c.read_stop-read.new.target))
    (sym (◌∙◌ {b = result_by c.place-at.result c.in-Some.stop read} c.result_by.ensures (ap (λ p. result_by p c.in-Some.stop read) c.place-at.ensures.place)))
    (gives_some room all c.args.self.now c.skip_line.new.self f c.pass.new.self c.args.state.now c.read_stop-read.new.state (octets c.args.target.now) (octets c.read_stop-read.new.target) read h c.skip_line.ensures c.in-Some.stop
    c.in-Some.ensures short c.read_stop-read.ensures.reads (c.pass.ensures ∙ ap (λ b. after_stop b c.in-Some.stop) c.read_stop-read.ensures.same))

use Rattle.std.proofs.Common.{◌≡◌, ℕ, ap, sym, ◌∙◌, subst, take, drop}
use Rattle.std.specs.Prelude.{Result}
use Rattle.dns_lexer.specs.CursorStates.{blank_at}
use Rattle.dns_lexer.specs.declared.pieces.Fault.{Fault}
use Rattle.dns_lexer.specs.declared.cursor_state.CursorState.{CursorState}
use Rattle.zone_stream.specs.Blocks.{Blocks}
use Rattle.zone_stream.specs.Yielding.{ReadsPending}
use Rattle.zone_stream.proofs.Held.{all_after}
use Rattle.zone_stream.proofs.Stops.{read_same}
use Rattle.zone_stream.proofs.blocks.BlockReader.read_stop.Goals as goal

pub returns-in-Ok-clause-reads : goal.returns-in-Ok-clause-reads
returns-in-Ok-clause-reads g c =
    let octets = g.B.AsOctets.octets in
    let room = g.B.OctetsBuilder.room in
    let me = c.args.self.now in
    let read = c.read_first in
    let rest : c.as_octets-rest.result.now ≡ drop me.next me.octets =
    c.as_octets-rest.ensures.same ∙ all_after c.self.inside.next c.as_slice.result.now ∙ ap (drop c.self.inside.next) c.as_slice.ensures.value ∙ ap (λ (b : Blocks). drop b.next b.octets) c.self.view_is in
    let same : c.begins_blank-begins_blank.result ≡ blank_at (drop me.next me.octets) 0 =
    ◌∙◌ {b = blank_at c.as_octets-rest.result.now c.at_entry.result.began} c.begins_blank-begins_blank.ensures.place
    (◌∙◌ {b = blank_at c.as_octets-rest.result.now 0} (ap (λ (s : CursorState). blank_at c.as_octets-rest.result.now s.began) c.at_entry.ensures) (ap (λ l. blank_at l 0) rest)) in
    subst (λ (s : Result ℕ Fault). ReadsPending room me s c.args.state.now (octets c.args.target.now) read.result read.new.state (octets read.new.target)) (sym c.in-Ok.is)
    (read_same room _ (take c.in-Ok.count (drop me.next me.octets)) c.begins_blank-begins_blank.result (blank_at (drop me.next me.octets) 0) c.place-at.result _ c.args.state.now (octets c.args.target.now) read.result read.new.state (octets read.new.target)
    (ap (take c.in-Ok.count) rest) same c.place-at.ensures.place read.ensures)

pub returns-in-Err-clause-reads : goal.returns-in-Err-clause-reads
returns-in-Err-clause-reads g c =
    let octets = g.B.AsOctets.octets in
    let room = g.B.OctetsBuilder.room in
    let me = c.args.self.now in
    let read = c.read_first-in-Err in
    let rest : c.as_octets-rest.result.now ≡ drop me.next me.octets =
    c.as_octets-rest.ensures.same ∙ all_after c.self.inside.next c.as_slice.result.now ∙ ap (drop c.self.inside.next) c.as_slice.ensures.value ∙ ap (λ (b : Blocks). drop b.next b.octets) c.self.view_is in
    let same : c.begins_blank-begins_blank.result ≡ blank_at (drop me.next me.octets) 0 =
    ◌∙◌ {b = blank_at c.as_octets-rest.result.now c.at_entry.result.began} c.begins_blank-begins_blank.ensures.place
    (◌∙◌ {b = blank_at c.as_octets-rest.result.now 0} (ap (λ (s : CursorState). blank_at c.as_octets-rest.result.now s.began) c.at_entry.ensures) (ap (λ l. blank_at l 0) rest)) in
    subst (λ (s : Result ℕ Fault). ReadsPending room me s c.args.state.now (octets c.args.target.now) read.result read.new.state (octets read.new.target)) (sym c.in-Err.is)
    (read_same room _ (drop me.next me.octets) c.begins_blank-begins_blank.result (blank_at (drop me.next me.octets) 0) c.place-at.result _ c.args.state.now (octets c.args.target.now) read.result read.new.state (octets read.new.target)
    rest same c.place-at.ensures.place read.ensures)

use Rattle.std.proofs.Common.{◌≡◌, ◌+◌, ◌<◌, ◌≤◌, length, drop, refl, sym, ap, ◌∙◌, subst, arith}
use Rattle.std.proofs.lemmas.Bool.{eqb-false}
use Rattle.std.proofs.lemmas.List.{length-drop}
use Rattle.dns_lexer.specs.CursorStates.{blank_at}
use Rattle.dns_lexer.specs.declared.cursor_state.CursorState.{CursorState}
use Rattle.dns_lexer.proofs.OctetsOnce.{are_octets}
use Rattle.zone_reader.specs.Tape.{FillsLine}
use Rattle.zone_reader.proofs.Filling.{end_within}
use Rattle.zone_reader.specs.Line.{line_seen}
use Rattle.zone_reader.proofs.LineSeen.{line_read}
use Rattle.zone_reader.proofs.line.read_line.Goals as goal

pub overflow_add-end : goal.overflow_add-end
overflow_add-end g c =
    let inside : c.in_ok-count.count ≤ length c.octets_from-rest.result.now = end_within c.octets_from-rest.result.now c.fill_line.new.tape.items c.in_ok-count.count c.in_ok-count.ensures.some.0 in
    let long = ap length c.octets_from-rest.ensures.rest in
    record { fits = omega (arith, inside, long, length-drop c.args.at c.args.octets.now, c.octets_from-rest.ensures.room, c.requires) }

pub returns-clause-reads : goal.returns-clause-reads
returns-clause-reads g c =
    let all = c.args.octets.now in
    let at = c.args.at in
    let rest = c.octets_from-rest.result.now in
    let spans = c.fill_line.new.tape.items in
    let is_rest : rest ≡ drop at all = c.octets_from-rest.ensures.rest in
    let line : FillsLine (drop at all) spans c.in_ok-count.count = subst (λ l. FillsLine l spans c.in_ok-count.count) is_rest c.in_ok-count.ensures.some in
    let blank : c.begins_blank-begins_blank.result ≡ blank_at (drop at all) 0 =
    ◌∙◌ {b = blank_at rest c.at_entry.result.began} c.begins_blank-begins_blank.ensures.place (ap (λ (s : CursorState). blank_at rest s.began) c.at_entry.ensures) ∙ ap (λ l. blank_at l 0) is_rest in
    let tokens : c.new-tokens.result ≡ line_seen (drop at all) at spans at =
    c.new-tokens.ensures ∙ ap (λ s. line_seen rest at s at) c.as_slice.ensures.value ∙ ap (λ l. line_seen l at spans at) is_rest in
    let some : 0 < length spans = omega (arith, eqb-false (length spans) 0 (sym c.is_empty.ensures ∙ c.if-is_empty.false)) in
    line_read g.B.OctetsBuilder.room c.args.octets at spans c.in_ok-count.count (are_octets all (λ k. (c.type_inv.octets k).fits)) line c.begins_blank-begins_blank.result c.new-tokens.result c.args.state.now c.read_entry-read.new.state
    (g.B.AsOctets.octets c.args.target.now) (g.B.AsOctets.octets c.read_entry-read.new.target) (record { end = at + c.in_ok-count.count; read = c.read_entry-read.result }) some blank tokens c.read_entry-read.ensures.reads refl

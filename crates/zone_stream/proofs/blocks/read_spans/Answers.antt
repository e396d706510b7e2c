use Rattle.std.proofs.Common.{◌≡◌, Bool, ap, ◌∙◌, subst, take}
use Rattle.dns_lexer.specs.CursorStates.{blank_at}
use Rattle.dns_lexer.specs.declared.cursor_state.CursorState.{CursorState}
use Rattle.zone_stream.specs.Yielding.{ReadsStop}
use Rattle.zone_stream.proofs.Taped.{read_within}
use Rattle.zone_stream.proofs.blocks.read_spans.Goals as goal

pub returns : goal.returns
returns g c =
    let octets = g.B.AsOctets.octets in
    let me = c.read_entry in
    let all = c.args.octets.now in
    let blank : c.begins_blank-begins_blank.result ≡ blank_at all 0 = ◌∙◌ {b = blank_at all c.at_entry.result.began} c.begins_blank-begins_blank.ensures.place (ap (λ (s : CursorState). blank_at all s.began) c.at_entry.ensures) in
    subst (λ (b : Bool). ReadsStop g.B.OctetsBuilder.room (take c.args.end all) b c.args.at c.args.state.now (octets c.args.target.now) me.result me.new.state (octets me.new.target)) blank
    (read_within g.B.OctetsBuilder.room all c.args.at c.args.end c.begins_blank-begins_blank.result c.new-tokens.result c.args.spans.now c.args.state.now (octets c.args.target.now) me.result me.new.state (octets me.new.target)
    c.requires.octets c.requires.fills c.new-tokens.ensures me.ensures.reads)

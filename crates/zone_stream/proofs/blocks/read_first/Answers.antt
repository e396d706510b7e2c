use Rattle.std.proofs.Common.{List, sym, subst}
use Rattle.zone_reader.specs.Tape.{FillsWith}
use Rattle.zone_reader.specs.declared.tape.TokenSpan.{TokenSpan}
use Rattle.zone_stream.proofs.Taped.{read_by}
use Rattle.zone_stream.proofs.blocks.read_first.Goals as goal

pub returns-in-Some : goal.returns-in-Some
returns-in-Some g c =
    let octets = g.B.AsOctets.octets in
    let me = c.read_entry in
    let fills : FillsWith c.args.octets.now c.as_slice.result.now c.in-Some.end = subst (λ (s : List TokenSpan). FillsWith c.args.octets.now s c.in-Some.end) (sym c.as_slice.ensures.value) c.in-Some.ensures.some in
    read_by g.B.OctetsBuilder.room c.args.octets.now c.args.at c.in-Some.end c.args.begins_blank c.new-tokens.result c.as_slice.result.now c.args.state.now (octets c.args.target.now) me.result me.new.state (octets me.new.target) fills
    c.new-tokens.ensures me.ensures.reads

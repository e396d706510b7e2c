use Rattle.std.proofs.Common.{ap, ◌∙◌}
use Rattle.zone_format.specs.Marks.{shortened}
use Rattle.zone_format.proofs.Moving.{writes_note}
use Rattle.zone_format.proofs.format.write_note.Goals as goal

pub returns : goal.returns
returns g c =
    writes_note c.args.octets.now _ _ _ _ c.args.progress c.args.span _ _ c.in_ok-line_state.ensures (c.shortened.ensures ∙ ap shortened c.of_octets.ensures) c.in_ok-push_note.ensures c.requires.reaches c.requires.order c.requires.some c.requires.within

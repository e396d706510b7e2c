use Rattle.std.proofs.Common.{◌-◌, length, drop, ap, arith, length-drop}
use Rattle.std.proofs.lemmas.List.{length-take}
use Rattle.zone_format.proofs.Moving.{writes_token}
use Rattle.zone_format.proofs.format.write_token.Goals as goal

pub push_token-requires-clause-room : goal.push_token-requires-clause-room
push_token-requires-clause-room g c =
    let rest = drop c.args.span.start c.args.octets.now in
    omega (arith, ap length c.of_octets-token.ensures, length-take (c.args.span.end - c.args.span.start) rest, length-drop c.args.span.start c.args.octets.now, c.requires.room)

pub returns-clause-well : goal.returns-clause-well
returns-clause-well g c =
    writes_token c.args.octets.now _ _ _ _ _ c.args.progress c.args.span _ _ c.in_ok-line_state.ensures c.of_octets-token.ensures c.glues-is_adjacent.ensures c.in_ok-accept.ensures.well c.in_ok-push_token.ensures c.requires.reaches c.requires.order c.requires.some c.requires.within

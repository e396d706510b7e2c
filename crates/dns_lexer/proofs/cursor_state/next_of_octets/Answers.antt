use Rattle.dns_lexer.proofs.OctetsOnce.{are_octets}
use Rattle.dns_lexer.proofs.Standings.{step_takes, step_within}
use Rattle.dns_lexer.proofs.cursor_state.next_of_octets.Goals as goal

pub returns-clause-takes : goal.returns-clause-takes
returns-clause-takes c =
    let octets = are_octets c.args.octets.now (λ k. (c.type_inv.octets k).fits) in
    let steps = rw c.begins_blank.ensures.place at c.step_on-stepped.ensures in
    rw c.began_after.ensures (step_takes c.args.octets.now c.args.standing.now c.step_on-stepped.result octets c.if-standing.false steps)

pub returns-clause-each : goal.returns-clause-each
returns-clause-each c =
    let octets = are_octets c.args.octets.now (λ k. (c.type_inv.octets k).fits) in
    let steps = rw c.begins_blank.ensures.place at c.step_on-stepped.ensures in
    step_within c.args.octets.now c.args.standing.now c.step_on-stepped.result octets c.if-standing.false steps c.requires.within

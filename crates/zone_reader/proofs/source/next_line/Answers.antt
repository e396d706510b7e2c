use Rattle.std.proofs.Common.{◌∙◌, arith, get_or}
use Rattle.std.proofs.lemmas.List.{drop_more}
use Rattle.zone_reader.proofs.Lines.{feed_here, nothing_left, other_here}
use Rattle.zone_reader.proofs.source.next_line.Goals as goal

pub returns-then-octets-place-eq10-clause-behind : goal.returns-then-octets-place-eq10-clause-behind
returns-then-octets-place-eq10-clause-behind c =
    let octets = c.args.octets.now in
    let place = c.loop-place.place in
    feed_here octets place (get_or octets place 0) (drop_more octets place 0 (omega (arith, c.loop-place-test.true))) c.if-octets-place-eq10.true ∙ c.loop-place.invariant

pub loop-place-preserved : goal.loop-place-preserved
loop-place-preserved c =
    let octets = c.args.octets.now in
    let place = c.loop-place.place in
    other_here octets place (get_or octets place 0) (drop_more octets place 0 (omega (arith, c.loop-place-test.true))) c.if-octets-place-eq10.false ∙ c.loop-place.invariant

pub returns-clause-behind : goal.returns-clause-behind
returns-clause-behind c = nothing_left c.args.octets.now c.loop-place.place (omega (arith, c.loop-place-test.false)) ∙ c.loop-place.invariant

use Rattle.std.proofs.Common.{arith, sym, subst}
use Rattle.zone_contents.proofs.DigestSteps.{collects_from, collects_more, collects_upto, owned_past, some_chosen, Collects}
use Rattle.zone_contents.proofs.apex_records.apex_places.Goals as goal
use Rattle.std.proofs.lemmas.Result.{err_from_is_err_and}

pub loop-place-init : goal.loop-place-init
loop-place-init g c =
    let range = c.apex_range-first in
    subst (Collects c.args.rtype c.args.apex.now c.args.zone.now range.result.0) (sym c.new-places.ensures.items)
    (collects_from c.args.rtype c.args.apex.now c.args.zone.now range.ensures.sorted range.ensures.name range.result.0 range.result.1 range.ensures.from range.ensures.owned)

pub push_at_apex-requires : goal.push_at_apex-requires
push_at_apex-requires g c =
    let range = c.apex_range-first in
    omega (arith, c.loop-place-test.true, owned_past c.args.rtype c.args.apex.now c.args.zone.now range.ensures.sorted range.ensures.name range.result.0 range.result.1 range.ensures.from range.ensures.owned)

pub loop-place-preserved : goal.loop-place-preserved
loop-place-preserved g c =
    let apex = c.args.apex.now in
    let z = c.args.zone.now in
    let range = c.apex_range-first in
    let long = owned_past c.args.rtype apex z range.ensures.sorted range.ensures.name range.result.0 range.result.1 range.ensures.from range.ensures.owned in
    subst (Collects c.args.rtype apex z _) (sym c.in_ok-push_at_apex.ensures.ok)
    (collects_more c.args.rtype apex z range.ensures.sorted c.loop-place.place _ c.loop-place.places.items (omega (arith, c.loop-place-test.true, long)) (omega arith) c.loop-place.invariant)

pub returns-clause-ok : goal.returns-clause-ok
returns-clause-ok g c =
    let range = c.apex_range-first in
    collects_upto c.args.rtype c.args.apex.now c.args.zone.now range.ensures.sorted range.ensures.name range.result.0 range.result.1 range.ensures.from range.ensures.owned
    c.loop-place.place c.loop-place.places.items (omega (arith, c.loop-place-test.false)) c.loop-place.invariant

pub returns-in_err-push_at_apex-clause-err : goal.returns-in_err-push_at_apex-clause-err
returns-in_err-push_at_apex-clause-err g c =
    let apex = c.args.apex.now in
    let z = c.args.zone.now in
    let range = c.apex_range-first in
    let long = owned_past c.args.rtype apex z range.ensures.sorted range.ensures.name range.result.0 range.result.1 range.ensures.from range.ensures.owned in
    let p = err_from_is_err_and c.from_residual.result c.from_residual.ensures.1 in
    rw p.1 (some_chosen c.args.rtype apex z range.ensures.sorted c.loop-place.place c.loop-place.places.items (omega (arith, c.loop-place-test.true, long)) c.in_err-push_at_apex.ensures.err c.loop-place.invariant)

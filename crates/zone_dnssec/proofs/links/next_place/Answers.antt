use Rattle.std.proofs.Common.{sym, ◌∙◌, arith}
use Rattle.zone_rules.proofs.Subjects.{one_more}
use Rattle.zone_dnssec.specs.NsecChain.{is_in_chain}
use Rattle.zone_dnssec.proofs.NextNames.{next_found, next_missing}
use Rattle.zone_dnssec.proofs.links.next_place.Goals as goal

pub returns-then-is_in_chain_at-clause-value : goal.returns-then-is_in_chain_at-clause-value
returns-then-is_in_chain_at-clause-value g c =
    let records = g.Z.ZoneRecords.contents c.args.records.now in
    next_found c.args.name.now records c.places-first.result.0 c.places-first.result.1 c.places-first.ensures c.greater_of-from.result c.greater_of-from.ensures
    (is_in_chain c.args.origin.now records) c.loop-place.place (omega (arith, c.loop-place.auto.place)) (omega (arith, c.loop-place-test.true, c.len-place-end.ensures)) c.loop-place.invariant
    (sym c.is_in_chain_at.ensures ∙ c.if-is_in_chain_at.true)

pub loop-place-preserved : goal.loop-place-preserved
loop-place-preserved g c =
    let records = g.Z.ZoneRecords.contents c.args.records.now in
    one_more (is_in_chain c.args.origin.now records) records c.greater_of-from.result c.loop-place.place (omega (arith, c.loop-place-test.true, c.len-place-end.ensures)) c.loop-place.invariant
    (sym c.is_in_chain_at.ensures ∙ c.if-is_in_chain_at.false)

pub returns-clause-value : goal.returns-clause-value
returns-clause-value g c =
    let records = g.Z.ZoneRecords.contents c.args.records.now in
    next_missing c.args.name.now records c.places-first.result.0 c.places-first.result.1 c.places-first.ensures c.greater_of-from.result c.greater_of-from.ensures
    (is_in_chain c.args.origin.now records) (λ i d low lt. c.loop-place.invariant i d low (omega (arith, lt, c.loop-place-test.false, c.len-place-end.ensures)))

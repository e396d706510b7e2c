use Rattle.std.proofs.Common.{length, subst, arith}
use Rattle.zone_dnssec.specs.ChainFaults.{AreNoFaults}
use Rattle.zone_dnssec.specs.ZoneViews.{zone_with}
use Rattle.zone_dnssec.proofs.ChainTests.{after_apex, before_apex}
use Rattle.zone_dnssec.proofs.faults.faults_of_chains.Goals as goal

pub loop-place-init : goal.loop-place-init
loop-place-init g c =
    let records = g.Z.ZoneRecords.contents c.args.records.now in
    before_apex (zone_with c.args.origin.now records) c.places-first.result.0 c.in_ok-faults.faults.items c.places-first.ensures.before
    (subst (λ n. AreNoFaults n c.in_ok-faults.faults.items) c.len.ensures c.in_ok-faults.ensures)

pub with_chain_at-requires-clause-place : goal.with_chain_at-requires-clause-place
with_chain_at-requires-clause-place g c = omega (arith, c.loop-place-test.true, c.places-first.ensures.bound)

pub with_chain_at-requires-clause-apex : goal.with_chain_at-requires-clause-apex
with_chain_at-requires-clause-apex g c = λ d. c.places-first.ensures.owned c.loop-place.place d (omega (arith, c.loop-place.auto.place)) (omega (arith, c.loop-place-test.true))

pub returns : goal.returns
returns g c =
    after_apex (zone_with c.args.origin.now (g.Z.ZoneRecords.contents c.args.records.now)) c.loop-place.place c.loop-place.faults.items
    (λ i d low lt. c.places-first.ensures.after i d (omega (arith, low, c.loop-place-test.false)) lt) c.loop-place.invariant

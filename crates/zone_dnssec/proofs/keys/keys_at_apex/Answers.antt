use Rattle.std.proofs.Common.{◌++◌, [], sym, ap, ◌∙◌, arith}
use Rattle.dns_wire.specs.Order.{same_name}
use Rattle.zone_dnssec.specs.ZoneKeys.{keys_at, keys_of}
use Rattle.zone_dnssec.proofs.OwnedRecords.{all_listed, listed_in_filter, nothing_listed, one_listed}
use Rattle.zone_dnssec.proofs.keys.keys_at_apex.Goals as goal

pub loop-place-init : goal.loop-place-init
loop-place-init g c =
    c.new-keys.ensures.items
    ∙ sym (nothing_listed (λ r. same_name r.owner c.args.origin.now) keys_of (g.Z.ZoneRecords.contents c.args.records.now) c.places-first.result.0 c.places-first.ensures.before)

pub loop-place-preserved : goal.loop-place-preserved
loop-place-preserved g c =
    let records = g.Z.ZoneRecords.contents c.args.records.now in
    let place = c.loop-place.place in
    c.in_ok-add_key_at.ensures ∙ ap (λ l. l ++ keys_at records place) c.loop-place.invariant
    ∙ sym (one_listed (λ r. same_name r.owner c.args.origin.now) keys_of records place (omega (arith, c.loop-place-test.true, c.places-first.ensures.bound))
    (λ d. c.places-first.ensures.owned place d (omega (arith, c.loop-place.auto.place)) (omega (arith, c.loop-place-test.true))))

pub returns : goal.returns
returns g c =
    let records = g.Z.ZoneRecords.contents c.args.records.now in
    c.loop-place.invariant
    ∙ all_listed (λ r. same_name r.owner c.args.origin.now) keys_of records c.loop-place.place (λ i d low lt. c.places-first.ensures.after i d (omega (arith, low, c.loop-place-test.false)) lt)
    ∙ sym (listed_in_filter (λ r. same_name r.owner c.args.origin.now) keys_of records)

use Rattle.std.proofs.Common.{sym, ap, subst, ◌∙◌}
use Rattle.std.specs.Prelude.{IfSome, length, option_and_then, slice_get, ◌<◌, ◌≤◌}
use Rattle.std.specs.List.Sorted.{IsNonDecreasing}
use Rattle.zone_dnssec.specs.ChainLinks.{link_below, PartsLinks}
use Rattle.zone_dnssec.specs.Nsec3Chain.{is_link}
use Rattle.zone_dnssec.proofs.ChainLinks.{places_rise}
use Rattle.std.specs.Option.{option_or}
use Rattle.zone_rules.specs.Searches.{before_place}
use Rattle.zone_dnssec.proofs.LinkSearches.{covering_bound, covering_by_count}
use Rattle.zone_dnssec.proofs.chain_links.covering_link.Goals as goal

pub count_below-count-requires : goal.count_below-count-requires
count_below-count-requires g c = subst IsNonDecreasing (sym c.requires) (places_rise (is_link c.args.chain.now) (g.Z.ZoneRecords.contents c.args.records.now))

pub returns-clause-bound : goal.returns-clause-bound
returns-clause-bound g c =
    let records = g.Z.ZoneRecords.contents c.args.records.now in
    let count = c.count_below-count.result in
    let long = length c.args.links.now in
    subst (λ o. IfSome o (λ q. q < length records))
    (sym (c.first_some.ensures ∙ (λ i. option_or (c.link_before_number.ensures i) (c.link_before_number-2.ensures i)) ∙ ap (λ l. option_or (before_place l count) (before_place l long)) c.requires))
    (covering_bound c.args.chain.now records c.args.name.now c.places-first.result.0 c.places-first.result.1 c.places-first.ensures count long)

pub returns-clause-value : goal.returns-clause-value
returns-clause-value g c =
    let records = g.Z.ZoneRecords.contents c.args.records.now in
    let count = c.count_below-count.result in
    let long = length c.args.links.now in
    ap (option_and_then (slice_get records))
    (c.first_some.ensures ∙ (λ i. option_or (c.link_before_number.ensures i) (c.link_before_number-2.ensures i)) ∙ ap (λ l. option_or (before_place l count) (before_place l long)) c.requires)
    ∙ covering_by_count c.args.chain.now records c.args.name.now c.places-first.result.0 c.places-first.result.1 c.places-first.ensures count long
    (subst (λ l. count ≤ length l) c.requires c.count_below-count.ensures.bound)
    (subst (λ l. PartsLinks c.places-first.result.0 l count) c.requires c.count_below-count.ensures.point) (ap length c.requires)

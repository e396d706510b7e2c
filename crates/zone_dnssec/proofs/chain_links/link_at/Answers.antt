use Rattle.std.proofs.Common.{sym, ap, subst, ◌∙◌}
use Rattle.std.specs.Prelude.{IfSome, length, option_and_then, slice_get, ◌<◌}
use Rattle.std.specs.List.Sorted.{IsNonDecreasing}
use Rattle.zone_dnssec.specs.ChainLinks.{link_below, PartsLinks}
use Rattle.zone_dnssec.specs.Nsec3Chain.{is_link}
use Rattle.zone_dnssec.proofs.ChainLinks.{places_rise}
use Rattle.zone_dnssec.proofs.LinkSearches.{below_bound, link_by_count}
use Rattle.zone_dnssec.proofs.chain_links.link_at.Goals as goal

pub count_below-count-requires : goal.count_below-count-requires
count_below-count-requires g c = subst IsNonDecreasing (sym c.requires) (places_rise (is_link c.args.chain.now) (g.Z.ZoneRecords.contents c.args.records.now))

pub returns-clause-bound : goal.returns-clause-bound
returns-clause-bound g c =
    let records = g.Z.ZoneRecords.contents c.args.records.now in
    let count = c.count_below-count.result in
    let past = c.places-first.result.1 in
    subst (λ o. IfSome o (λ q. q < length records)) (sym (c.below.ensures ∙ ap (link_below past) (c.link_by_number.ensures ∙ ap (λ l. slice_get l count) c.requires)))
    (below_bound c.args.chain.now records c.args.owner.now c.places-first.result.0 past c.places-first.ensures count)

pub returns-clause-value : goal.returns-clause-value
returns-clause-value g c =
    let records = g.Z.ZoneRecords.contents c.args.records.now in
    let count = c.count_below-count.result in
    let past = c.places-first.result.1 in
    ap (option_and_then (slice_get records)) (c.below.ensures ∙ ap (link_below past) (c.link_by_number.ensures ∙ ap (λ l. slice_get l count) c.requires))
    ∙ link_by_count c.args.chain.now records c.args.owner.now c.places-first.result.0 past c.places-first.ensures count
    (subst (λ l. PartsLinks c.places-first.result.0 l count) c.requires c.count_below-count.ensures.point)

use Rattle.std.proofs.Common.{◌++◌, take, sym, ap, ◌∙◌, arith}
use Rattle.std.proofs.lemmas.List.{take_all}
use Rattle.zone_dnssec.specs.ChainLinks.{link_if, link_places}
use Rattle.zone_dnssec.specs.Nsec3Chain.{is_link}
use Rattle.zone_dnssec.proofs.ChainLinks.{places_more}
use Rattle.zone_dnssec.proofs.chain_links.links_of.Goals as goal

pub loop-place-preserved : goal.loop-place-preserved
loop-place-preserved g c =
    let records = g.Z.ZoneRecords.contents c.args.records.now in
    let place = c.loop-place.place in
    c.in_ok-add_link.ensures ∙ (λ i. c.loop-place.invariant i ++ link_if (c.is_link_at-is_link.ensures i) place)
    ∙ sym (places_more (is_link c.args.chain.now) records place (omega (arith, c.loop-place-test.true, c.len-place-end.ensures)))

pub returns : goal.returns
returns g c =
    let records = g.Z.ZoneRecords.contents c.args.records.now in
    c.loop-place.invariant ∙ ap (link_places c.args.chain.now) (take_all c.loop-place.place records (omega (arith, c.loop-place-test.false, c.len-place-end.ensures)))

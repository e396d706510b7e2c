use Rattle.std.proofs.Common.{ap, ◌∙◌}
use Rattle.std.specs.Prelude.{option_and_then}
use Rattle.zone_dnssec.specs.ChainLinks.{owned_link}
use Rattle.zone_dnssec.proofs.hashed.link_for.Goals as goal

pub returns-in-Some-clause-value : goal.returns-in-Some-clause-value
returns-in-Some-clause-value g c =
    let records = g.Z.ZoneRecords.contents c.args.records.now in
    c.link_at.ensures.value ∙ ap (owned_link records c.args.chain.now) c.view.ensures ∙ ap (option_and_then (owned_link records c.args.chain.now)) c.in-Some.ensures

pub returns-in-None-clause-value : goal.returns-in-None-clause-value
returns-in-None-clause-value g c = ap (option_and_then (owned_link (g.Z.ZoneRecords.contents c.args.records.now) c.args.chain.now)) c.in-None.ensures

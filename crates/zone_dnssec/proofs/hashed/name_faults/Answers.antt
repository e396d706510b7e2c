use Rattle.std.proofs.Common.{true, false, ap, ◌∙◌}
use Rattle.std.specs.Prelude.{not}
use Rattle.std.specs.Option.{option_map_or}
use Rattle.zone_rules.specs.Rules.{is_zone_cut}
use Rattle.zone_dnssec.specs.Nsec3Chain.{hashed_bitmap}
use Rattle.zone_dnssec.specs.NsecTypes.{lists_exactly}
use Rattle.zone_dnssec.proofs.ChainTests.{there_is_one}
use Rattle.zone_dnssec.proofs.hashed.name_faults.Goals as goal

pub returns-in-Some-clause-missing : goal.returns-in-Some-clause-missing
returns-in-Some-clause-missing g c =
    there_is_one (g.Z.ZoneRecords.contents c.args.records.now) c.in-Some.place c.in-Some.ensures.bound ∙ ap (λ o. option_map_or (λ link. false) o true) c.in-Some.ensures.value

pub returns-in-Some-clause-types : goal.returns-in-Some-clause-types
returns-in-Some-clause-types g c =
    let records = g.Z.ZoneRecords.contents c.args.records.now in
    let name = c.args.name.now in
    c.has_wrong_types_at.ensures ∙ ap (λ o. option_map_or (λ link. not (lists_exactly (is_zone_cut c.args.origin.now records name) records name (hashed_bitmap link))) o false) c.in-Some.ensures.value

pub returns-in-None-clause-missing : goal.returns-in-None-clause-missing
returns-in-None-clause-missing g c = ap (λ o. option_map_or (λ link. false) o true) c.in-None.ensures.value

pub returns-in-None-clause-types : goal.returns-in-None-clause-types
returns-in-None-clause-types g c =
    let records = g.Z.ZoneRecords.contents c.args.records.now in
    let name = c.args.name.now in
    ap (λ o. option_map_or (λ link. not (lists_exactly (is_zone_cut c.args.origin.now records name) records name (hashed_bitmap link))) o false) c.in-None.ensures.value

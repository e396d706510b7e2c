use Rattle.std.proofs.Common.{ap, ◌∙◌}
use Rattle.std.specs.Prelude.{◌&&◌, ◌||◌, not}
use Rattle.zone_rules.specs.Subjects.{is_apex_server, is_server_above, wants_host}
use Rattle.zone_rules.proofs.Subjects.{faults_are}
use Rattle.zone_rules.proofs.hosts.faults_of.Goals as goal

pub is_without_address-unserved-requires : goal.is_without_address-unserved-requires
is_without_address-unserved-requires g c = c.has_address-served.ensures ∙ (λ i. c.types_of_host-types.ensures.a i || c.types_of_host-types.ensures.aaaa i)

pub returns : goal.returns
returns g c =
    let origin = c.args.origin.now in
    let r = c.args.record.now in
    let name = c.args.name.now in
    let served = c.has_address-served.ensures ∙ (λ i. c.types_of_host-types.ensures.a i || c.types_of_host-types.ensures.aaaa i) in
    faults_are origin (g.Z.ZoneRecords.contents c.args.records.now) c.args.refused.now r name _ c.requires.host
    (c.is_apex_fault.ensures ∙ ap (λ b. is_apex_server origin r && b) c.is_without_address-unserved.ensures)
    (c.is_glue_fault.ensures ∙ ap (λ b. is_server_above origin r name && not b) served) c.is_alias_name-alias.ensures c.is_name_below_dname.ensures
    (c.is_missing_fault.ensures ∙ ap (λ b. wants_host origin r && b) c.is_name_missing-missing.ensures)

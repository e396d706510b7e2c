use Rattle.std.proofs.Common.{ap, sym, ◌∙◌}
use Rattle.std.specs.Prelude.{◌&&◌, not}
use Rattle.std.specs.List.{list_any}
use Rattle.zone_rules.specs.Rules.{is_alias_beside}
use Rattle.zone_rules.proofs.SetEnds.{aliases_beside}
use Rattle.zone_rules.proofs.services.is_one_of_aliases.Goals as goal

pub returns : goal.returns
returns g c =
    let records = g.Z.ZoneRecords.contents c.args.records.now in
    let none = sym c.has_related_by_set.ensures ∙ c.if-has_related_by_set.false in
    c.has_related_by_set-2.ensures ∙ aliases_beside records c.args.record.now none ∙ sym (ap (λ b. not b && list_any (is_alias_beside c.args.record.now) records) none)

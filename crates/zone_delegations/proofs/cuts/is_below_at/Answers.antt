use Rattle.std.proofs.Common.{false, ap, ◌∙◌}
use Rattle.std.specs.Prelude.{slice_get}
use Rattle.std.specs.Option.{option_map_or}
use Rattle.zone_rules.specs.Rules.{is_below_zone_cut}
use Rattle.zone_delegations.proofs.Listed.{listed_owner}
use Rattle.zone_delegations.proofs.cuts.is_below_at.Goals as goal

pub returns : goal.returns
returns g c =
    c.is_below_cut.ensures
    ∙ ap (λ o. option_map_or (is_below_zone_cut c.args.origin.now (g.Z.ZoneRecords.contents c.args.records.now)) o false)
    (listed_owner (slice_get (g.Z.ZoneRecords.contents c.args.records.now) c.args.place) c.record-record.result c.record-record.ensures)

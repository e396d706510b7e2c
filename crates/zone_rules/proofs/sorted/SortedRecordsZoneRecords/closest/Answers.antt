use Rattle.std.proofs.Common.{◌∷◌, ap, ◌∙◌}
use Rattle.std.specs.List.{find}
use Rattle.zone_rules.specs.Above.{names_above}
use Rattle.zone_rules.specs.Zones.{has_owner_within}
use Rattle.zone_rules.proofs.sorted.SortedRecordsZoneRecords.closest.Goals as goal

pub returns : goal.returns
returns g c = c.closest.ensures ∙ ap (λ records. find (λ above. has_owner_within above records) (c.args.name.now ∷ names_above c.args.name.now)) c.self.view_is

use Rattle.std.proofs.Common.{sym, ◌∙◌}
use Rattle.zone_rules.specs.Present.{is_listed_within}
use Rattle.zone_rules.specs.Searches.{longer_name}
use Rattle.zone_rules.specs.Zones.{has_owner_within}
use Rattle.zone_rules.proofs.Neighbours.{find_either}
use Rattle.zone_rules.proofs.present.closest_existing.Goals as goal

pub returns : goal.returns
returns g c =
    c.longer.ensures ∙ (λ i. longer_name (c.closest.ensures i) (c.closest-2.ensures i))
    ∙ sym (find_either (λ a. has_owner_within a (g.Z.ZoneRecords.contents c.args.records.now)) (λ a. is_listed_within a c.args.refused.now) c.args.name.now)

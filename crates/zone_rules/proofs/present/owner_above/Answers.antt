use Rattle.std.proofs.Common.{sym, ◌∙◌}
use Rattle.zone_rules.specs.Present.{rrset_of_record}
use Rattle.zone_rules.specs.Searches.{is_above_earlier, longer_name}
use Rattle.zone_rules.proofs.Neighbours.{find_either_above}
use Rattle.zone_rules.proofs.present.owner_above.Goals as goal

pub returns : goal.returns
returns g c =
    c.longer.ensures ∙ (λ i. longer_name (c.closest_before.ensures i) (c.closest_before-2.ensures i))
    ∙ sym (find_either_above (is_above_earlier rrset_of_record (g.Z.ZoneRecords.contents c.args.records.now) c.args.name.now) (is_above_earlier (λ s. s) c.args.refused.now c.args.name.now) c.args.name.now)

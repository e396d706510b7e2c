use Rattle.std.proofs.Common.{ap, sym, ◌∙◌, arith}
use Rattle.std.specs.List.{AllWithin}
use Rattle.zone_rules.specs.Subjects.{relates}
use Rattle.zone_rules.proofs.OwnRecords.{owned_by_it}
use Rattle.zone_rules.proofs.Subjects.{none_related}
use Rattle.zone_rules.proofs.by_set.has_related_by_set.Goals as goal

pub returns : goal.returns
returns g c =
    sym (none_related c.args.relation c.args.one.now (g.Z.ZoneRecords.contents c.args.records.now) c.places_at-first.result.0 c.places_at-first.result.1
    (owned_by_it (g.Z.ZoneRecords.contents c.args.records.now) c.args.place c.args.one.now c.requires.at c.places_at-first.result.0 c.places_at-first.result.1 c.places_at-first.ensures)
    (λ i d low lt. c.sets.invariant.2 i d low (omega (arith, lt, c.sets-test.false))))

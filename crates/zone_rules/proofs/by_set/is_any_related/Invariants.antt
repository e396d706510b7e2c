use Rattle.std.proofs.Common.{◌≡◌, false}
use Rattle.std.specs.List.{AllWithin}
use Rattle.zone_rules.specs.Subjects.{relates}
use Rattle.zone_rules.proofs.by_set.is_any_related.Given as goal

abbrev pub invariant-loop-other : goal.invariant-loop-other
invariant-loop-other g l = AllWithin (λ r. relates l.relation l.one r ≡ false) (g.Z.ZoneRecords.contents l.records) l.from l.other

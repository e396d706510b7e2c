use Rattle.std.proofs.Common.{◌≡◌, false}
use Rattle.std.specs.List.{AllWithin}
use Rattle.zone_rules.proofs.CnameTargets.{is_alias_record}
use Rattle.zone_rules.proofs.aliases.first_alias.Given as goal

abbrev pub invariant-loop-place : goal.invariant-loop-place
invariant-loop-place g l = AllWithin (λ r. is_alias_record r ≡ false) (g.Z.ZoneRecords.contents l.records) l.first l.place

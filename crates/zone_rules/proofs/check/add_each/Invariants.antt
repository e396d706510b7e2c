use Rattle.std.proofs.Common.{◌≡◌, ◌++◌, take}
use Rattle.std.specs.List.{flat_map}
use Rattle.zone_rules.specs.Findings.{found_of}
use Rattle.zone_rules.proofs.check.add_each.Given as goal

abbrev pub invariant-loop-rule : goal.invariant-loop-rule
invariant-loop-rule g l = l.found.items ≡ l.initial.found.items ++ flat_map (found_of l.origin (g.Z.ZoneRecords.contents l.records) l.refused l.subject.place) (take l.rule-index l.rules)

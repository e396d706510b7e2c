use Rattle.std.proofs.Common.{◌≡◌, ◌++◌, ◌-◌}
use Rattle.std.specs.List.{flat_map, range_with_len}
use Rattle.zone_rules.specs.Findings.{found_at}
use Rattle.zone_rules.proofs.check.find_broken.Given as goal

abbrev pub invariant-loop-place : goal.invariant-loop-place
invariant-loop-place g l = l.found.items ≡ l.initial.found.items ++ flat_map (found_at l.apex (g.Z.ZoneRecords.contents l.records) l.refused) (range_with_len l.first (l.place - l.first))

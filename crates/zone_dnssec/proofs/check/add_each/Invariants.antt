use Rattle.std.proofs.Common.{◌≡◌, ◌++◌, take}
use Rattle.std.specs.List.{flat_map}
use Rattle.zone_dnssec.specs.SecurityFindings.{insecure_of}
use Rattle.zone_dnssec.specs.ZoneViews.{zone_with}
use Rattle.zone_dnssec.proofs.check.add_each.Given as goal

abbrev pub invariant-loop-rule : goal.invariant-loop-rule
invariant-loop-rule g l =
    l.found.items ≡ l.initial.found.items ++ flat_map (insecure_of (zone_with l.origin (g.Z.ZoneRecords.contents l.records)) l.times l.subject.place) (take l.rule-index l.rules)

use Rattle.std.proofs.Common.{◌≡◌, false}
use Rattle.std.specs.List.{AllWithin}
use Rattle.zone_cuts.specs.Servers.{is_other_server}
use Rattle.zone_cuts.proofs.servers.find_other_within.Given as goal

abbrev pub invariant-loop-place : goal.invariant-loop-place
invariant-loop-place g l = AllWithin (λ r. is_other_server l.name (g.Z.ZoneRecords.contents l.others) r ≡ false) (g.Y.ZoneRecords.contents l.records) l.first l.place

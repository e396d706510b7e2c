use Rattle.std.proofs.Common.{◌≡◌, ◌≤◌, take}
use Rattle.zone_dnssec.specs.OptOutFlags.{flag_count}
use Rattle.zone_dnssec.proofs.flags.count_flags.Given as goal

abbrev pub invariant-loop-place : goal.invariant-loop-place
invariant-loop-place g l = (l.count ≡ flag_count l.chain l.is_set (take l.place (g.Z.ZoneRecords.contents l.records))) × (l.count ≤ l.place)

use Rattle.std.proofs.Common.{map, take}
use Rattle.rdata_values.specs.Rtype as Rtype
use Rattle.zone_contents.specs.Digests.{data_at, zone_apex_data, zone_octets}
use Rattle.zone_contents.proofs.digests.check_digests.Given as goal
use Rattle.zone_contents.specs.Checks.{HaveVerdicts}

abbrev pub invariant-loop-place : goal.invariant-loop-place
invariant-loop-place g l =
    HaveVerdicts l.serial (zone_octets l.apex l.zone) (zone_apex_data Rtype.zonemd l.apex l.zone) (map (data_at l.zone) (take l.place-index l.all)) l.verdicts.items

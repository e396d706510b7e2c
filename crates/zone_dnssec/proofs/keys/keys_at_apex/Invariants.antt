use Rattle.std.proofs.Common.{◌≡◌, [], cond, take}
use Rattle.std.specs.List.{flat_map}
use Rattle.dns_wire.specs.Order.{same_name}
use Rattle.zone_dnssec.specs.ZoneKeys.{keys_of}
use Rattle.zone_dnssec.proofs.keys.keys_at_apex.Given as goal

abbrev pub invariant-loop-place : goal.invariant-loop-place
invariant-loop-place g l =
    l.keys.items ≡ flat_map (λ r. cond (same_name r.owner l.origin) (keys_of r) []) (take l.place (g.Z.ZoneRecords.contents l.records))

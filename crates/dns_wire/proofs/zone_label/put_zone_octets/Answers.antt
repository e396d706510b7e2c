use Rattle.std.proofs.lemmas.List.{get_or_default}
use Rattle.dns_wire.proofs.ZoneLabels.{zone_ascii}
use Rattle.dns_wire.proofs.zone_label.put_zone_octets.Goals as goal

pub returns-clause-ascii : goal.returns-clause-ascii
returns-clause-ascii c = zone_ascii c.args.octets.now (λ k d h. rw (get_or_default c.args.octets.now k d 0 h) (c.type_inv.octets k).fits)

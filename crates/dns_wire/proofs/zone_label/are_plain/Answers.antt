use Rattle.std.proofs.lemmas.List.{get_or_default}
use Rattle.dns_wire.proofs.ZoneLabels.{zone_ascii}
use Rattle.dns_wire.proofs.zone_label.are_plain.Goals as goal

pub returns-clause-ascii : goal.returns-clause-ascii
returns-clause-ascii c = zone_ascii c.args.label.now (λ k d h. rw (get_or_default c.args.label.now k d 0 h) (c.type_inv.label k).fits)

pub returns-then-not-is_plain-clause-ascii : goal.returns-then-not-is_plain-clause-ascii
returns-then-not-is_plain-clause-ascii c = zone_ascii c.args.label.now (λ k d h. rw (get_or_default c.args.label.now k d 0 h) (c.type_inv.label k).fits)

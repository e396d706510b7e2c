use Rattle.zone_rules.proofs.aliases.+is_led_to.Given as goal

abbrev pub decreases-is_led_to : goal.decreases-is_led_to
decreases-is_led_to g l = l.count

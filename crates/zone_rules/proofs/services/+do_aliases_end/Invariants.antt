use Rattle.zone_rules.proofs.services.+do_aliases_end.Given as goal

abbrev pub decreases-do_aliases_end : goal.decreases-do_aliases_end
decreases-do_aliases_end g l = l.count

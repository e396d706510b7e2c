use Rattle.std.proofs.Common.{sym, ◌∙◌}
use Rattle.zone_rules.proofs.Neighbours.{first_true, first_false, listed_some, listed_none}
use Rattle.zone_rules.proofs.present.+is_under_refused_dname.Goals as goal

pub returns-then-lists_set : goal.returns-then-lists_set
returns-then-lists_set t c = first_true _ _ _ _ (listed_some c.args.refused.now c.args.name.now c.in-Some.above (sym c.closest_before.ensures ∙ c.in-Some.is)) c.lists_set.ensures c.if-lists_set.true

pub returns-else-lists_set : goal.returns-else-lists_set
returns-else-lists_set t c = first_false _ _ _ _ _ (listed_some c.args.refused.now c.args.name.now c.in-Some.above (sym c.closest_before.ensures ∙ c.in-Some.is)) c.lists_set.ensures c.if-lists_set.false c.is_under_refused_dname.ensures

pub returns-in-None : goal.returns-in-None
returns-in-None t c = sym (listed_none c.args.refused.now c.args.name.now (sym c.closest_before.ensures ∙ c.in-None.is))

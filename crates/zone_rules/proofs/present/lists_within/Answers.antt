use Rattle.std.proofs.Common.{sym, ◌∙◌}
use Rattle.std.specs.Prelude.{◌==◌}
use Rattle.zone_rules.specs.Present.{is_listed_within}
use Rattle.zone_rules.proofs.CnameTargets.{closest_itself, closest_none}
use Rattle.zone_rules.proofs.present.lists_within.Goals as goal

pub returns-in-Some : goal.returns-in-Some
returns-in-Some c =
    (λ i. c.len.ensures.value i == c.len-in-Some.ensures.value i) ∙ closest_itself (λ above. is_listed_within above c.args.refused.now) c.args.name.now c.in-Some.closest (sym c.closest.ensures ∙ c.in-Some.is)

pub returns-in-None : goal.returns-in-None
returns-in-None c = closest_none (λ above. is_listed_within above c.args.refused.now) c.args.name.now (sym c.closest.ensures ∙ c.in-None.is)

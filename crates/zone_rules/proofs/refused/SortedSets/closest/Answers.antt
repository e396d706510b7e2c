use Rattle.std.proofs.Common.{◌∷◌, ap, ◌∙◌}
use Rattle.std.specs.List.{find}
use Rattle.zone_rules.specs.Above.{names_above}
use Rattle.zone_rules.specs.Present.{is_listed_within}
use Rattle.zone_rules.proofs.refused.SortedSets.closest.Goals as goal

pub returns : goal.returns
returns c = c.closest.ensures ∙ ap (λ sets. find (λ above. is_listed_within above sets) (c.args.name.now ∷ names_above c.args.name.now)) c.self.view_is

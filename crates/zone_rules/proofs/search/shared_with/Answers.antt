use Rattle.std.proofs.Common.{◌∷◌, sym, ap, ◌∙◌}
use Rattle.std.specs.Prelude.{option_and_then}
use Rattle.std.specs.List.{find}
use Rattle.std.specs.Option.{option_copied}
use Rattle.zone_rules.specs.Above.{is_within, names_above}
use Rattle.zone_rules.proofs.search.shared_with.Goals as goal

pub returns-in-Some : goal.returns-in-Some
returns-in-Some g c =
    sym c.shared_name.ensures ∙ ap (λ o. find (is_within o) (c.args.name.now ∷ names_above c.args.name.now)) c.owner.ensures
    ∙ ap (λ o. option_and_then (λ x. find (is_within (g.T.OfRrset.rrset x).owner) (c.args.name.now ∷ names_above c.args.name.now)) (option_copied o)) (sym c.in-Some.is)

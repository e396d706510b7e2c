use Rattle.std.proofs.Common.{ℕ, refl, ap, sym, subst, ◌∙◌}
use Rattle.std.proofs.lemmas.List.{take_rest}
use Rattle.server_config.specs.PathPatterns.{path_fits, pattern_items}
use Rattle.server_config.specs.PathPlaces.{EndsHere}
use Rattle.server_config.proofs.StarSteps.{found_place, next_place}
use Rattle.server_config.proofs.path_pattern.after_star.Goals as goal

pub returns-in-Some-clause-fits : goal.returns-in-Some-clause-fits
returns-in-Some-clause-fits c =
    let p = c.args.pattern.now in
    let n = c.args.name.now in
    let from = c.loop-from.from in
    let r : ℕ × ℕ = (c.in-Some.index, c.in-Some.at) in
    found_place p n from c.loop-from.invariant c.loop-from-test.true r (subst (λ t. EndsHere p t r) (take_rest n from) c.in-Some.ensures.fits)

pub loop-from-preserved : goal.loop-from-preserved
loop-from-preserved c =
    let p = c.args.pattern.now in
    let n = c.args.name.now in
    let from = c.loop-from.from in
    next_place p n from c.loop-from.invariant c.loop-from-test.true (sym (ap (path_fits (pattern_items p)) (take_rest n from)) ∙ c.in_default.ensures.none refl)

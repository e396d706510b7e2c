use Rattle.std.proofs.Common.{sym, ◌∙◌}
use Rattle.std.specs.Prelude.{◌==◌}
use Rattle.zone_rules.proofs.PairTests.{other_type}
use Rattle.zone_rules.proofs.pairs.are_equal.Goals as goal

pub returns-else-eq : goal.returns-else-eq
returns-else-eq g c =
    c.if-eq.false ∙ sym (other_type c.args.left.now c.args.right.now ((λ i. sym c.rtype.ensures i == sym c.rtype-2.ensures i) ∙ sym c.eq.ensures ∙ c.if-eq.false))

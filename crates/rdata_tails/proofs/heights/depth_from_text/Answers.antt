use Rattle.std.proofs.Common.{rules, sym, subst}
use Rattle.rdata_tails.specs.Locations.{FindsBelow, SpellsDepth}
use Rattle.rdata_tails.proofs.HeightLemmas.{no_depth, too_deep}
use Rattle.rdata_tails.proofs.heights.depth_from_text.Goals as goal

pub returns-in_err-below : goal.returns-in_err-below
returns-in_err-below c = subst (FindsBelow SpellsDepth c.args.text.now) (sym c.from_residual.ensures) (no_depth c.args.text.now c.in_err-below.ensures.found)

pub returns-then-below-from : goal.returns-then-below-from
returns-then-below-from c = too_deep c.args.text.now c.in_ok-below.below c.in_ok-below.ensures.found (search rules)

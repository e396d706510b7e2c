use Rattle.std.proofs.Common.{rules, sym, subst}
use Rattle.rdata_tails.specs.Locations.{FindsBelow, SpellsHeight}
use Rattle.rdata_tails.proofs.HeightLemmas.{no_height, too_high}
use Rattle.rdata_tails.proofs.heights.height_from_text.Goals as goal

pub returns-in_err-above : goal.returns-in_err-above
returns-in_err-above c = subst (FindsBelow SpellsHeight c.args.text.now) (sym c.from_residual.ensures) (no_height c.args.text.now c.in_err-above.ensures.found)

pub returns-then-number-from : goal.returns-then-number-from
returns-then-number-from c = too_high c.args.text.now c.in_ok-above.above c.in_ok-above.ensures.found (search rules)

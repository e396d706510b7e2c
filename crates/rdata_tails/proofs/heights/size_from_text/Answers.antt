use Rattle.std.proofs.Common.{sym, subst}
use Rattle.rdata_tails.specs.Locations.{Finds, SpellsSize}
use Rattle.rdata_tails.proofs.HeightLemmas.{no_size, too_large}
use Rattle.rdata_tails.proofs.heights.size_from_text.Goals as goal

pub returns-in_err-number : goal.returns-in_err-number
returns-in_err-number c = subst (Finds SpellsSize c.args.text.now) (sym c.from_residual.ensures) (no_size c.args.text.now c.in_err-number.ensures.found)

pub returns-then-number-ge9000000100 : goal.returns-then-number-ge9000000100
returns-then-number-ge9000000100 c = too_large c.args.text.now c.in_ok-number.number c.in_ok-number.ensures.found c.if-number-ge9000000100.true

use Rattle.std.proofs.Common.{sym, subst}
use Rattle.rdata_tails.specs.Locations.{Finds, SpellsSeconds}
use Rattle.rdata_tails.proofs.AngleLemmas.{no_seconds, many_seconds, seconds_bounded}
use Rattle.rdata_tails.proofs.angles.seconds_from_text.Goals as goal

pub returns-in_err-seconds : goal.returns-in_err-seconds
returns-in_err-seconds c =
    subst (Finds (SpellsSeconds c.args.axis c.args.before) c.args.text.now) (sym c.from_residual.ensures) (no_seconds c.args.axis c.args.before c.args.text.now c.in_err-seconds.ensures.found)

pub returns-then-seconds-ge60000 : goal.returns-then-seconds-ge60000
returns-then-seconds-ge60000 c = many_seconds c.args.axis c.args.before c.args.text.now c.in_ok-seconds.seconds c.in_ok-seconds.ensures.found c.if-seconds-ge60000.true

pub returns : goal.returns
returns c = seconds_bounded c.args.axis c.args.before c.args.text.now c.in_ok-seconds.seconds c.bounded.result c.in_ok-seconds.ensures.found c.if-seconds-ge60000.false c.bounded.ensures

use Rattle.std.proofs.Common.{sym, subst}
use Rattle.rdata_tails.specs.Locations.{Finds}
use Rattle.rdata_tails.specs.LocationParsing.{SpellsPart}
use Rattle.rdata_tails.proofs.location.part_from_text.Goals as goal

pub returns-in-Degrees : goal.returns-in-Degrees
returns-in-Degrees c = subst (λ part. Finds (SpellsPart part) c.args.text.now c.degrees_from_text.result) (sym c.in-Degrees.is) c.degrees_from_text.ensures

pub returns-in-Minutes : goal.returns-in-Minutes
returns-in-Minutes c = subst (λ part. Finds (SpellsPart part) c.args.text.now c.minutes_from_text.result) (sym c.in-Minutes.is) c.minutes_from_text.ensures

pub returns-in-Seconds : goal.returns-in-Seconds
returns-in-Seconds c = subst (λ part. Finds (SpellsPart part) c.args.text.now c.seconds_from_text.result) (sym c.in-Seconds.is) c.seconds_from_text.ensures

pub returns-in-Side : goal.returns-in-Side
returns-in-Side c = subst (λ part. Finds (SpellsPart part) c.args.text.now c.side_from_text.result) (sym c.in-Side.is) c.side_from_text.ensures

pub returns-in-Altitude : goal.returns-in-Altitude
returns-in-Altitude c = subst (λ part. Finds (SpellsPart part) c.args.text.now c.altitude_from_text.result) (sym c.in-Altitude.is) c.altitude_from_text.ensures

pub returns-in-Size : goal.returns-in-Size
returns-in-Size c = subst (λ part. Finds (SpellsPart part) c.args.text.now c.size_from_text.result) (sym c.in-Size.is) c.size_from_text.ensures

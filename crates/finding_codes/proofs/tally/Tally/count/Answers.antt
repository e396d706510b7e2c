use Rattle.std.proofs.Common.{◌∙◌, arith}
use Rattle.finding_codes.proofs.Tallies.{room_shows}
use Rattle.finding_codes.proofs.tally.Tally.count.Goals as goal

pub returns-in-Error-clause-shows : goal.returns-in-Error-clause-shows
returns-in-Error-clause-shows c = λ found t. c.has_room-is_shown.ensures.room ∙ room_shows found _ _ _ _ t.errors t.warnings (omega (arith, c.has_room-is_shown.ensures.fits))

pub returns-in-Warning-clause-shows : goal.returns-in-Warning-clause-shows
returns-in-Warning-clause-shows c = λ found t. c.has_room-is_shown.ensures.room ∙ room_shows found _ _ _ _ t.errors t.warnings (omega (arith, c.has_room-is_shown.ensures.fits))

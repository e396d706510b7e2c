use Rattle.zone_check.proofs.WordSteps.{is_found, is_not_found}
use Rattle.zone_check.proofs.entry_words.is_class.Goals as goal

pub returns-in-Some : goal.returns-in-Some
returns-in-Some c = is_found (c.in-Some.field-0, c.in-Some.ensures)

pub returns-in-None : goal.returns-in-None
returns-in-None c = is_not_found (λ p. c.in-None.ensures p.0 p.1)

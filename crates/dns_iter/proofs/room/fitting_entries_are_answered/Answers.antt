use Rattle.std.proofs.Common.{arith, ⊎_elim}
use Rattle.dns_iter.proofs.room.fitting_entries_are_answered.Goals as goal

pub returns-clause-fits : goal.returns-clause-fits
returns-clause-fits g c = λ tokens strings stands read short fits.
    ⊎_elim (λ k. k) (λ k. absurd (omega (arith, k.1, fits))) (c.string_entries_are_scanned_back.ensures.whole tokens strings stands read short)

use Rattle.std.proofs.Common.{arith, ⊎_elim}
use Rattle.dns_iter.proofs.room.fitting_strings_are_answered.Goals as goal

pub returns-clause-fits : goal.returns-clause-fits
returns-clause-fits g c = λ token others octets stands has fits short.
    ⊎_elim (λ k. k) (λ k. absurd (omega (arith, k.1, fits, short))) ((c.character_strings_are_scanned_back.ensures.takes token others stands).0.whole octets has)

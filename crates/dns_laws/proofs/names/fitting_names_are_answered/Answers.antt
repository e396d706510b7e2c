use Rattle.std.proofs.Common.{arith, ⊎_elim}
use Rattle.dns_laws.proofs.names.fitting_names_are_answered.Goals as goal

pub returns-clause-takes : goal.returns-clause-takes
returns-clause-takes g c = λ token others stands.
    let given = c.names_are_scanned_back.ensures.takes token others stands in (
      record {
        whole = λ name is fits. ⊎_elim (λ k. k) (λ k. absurd (omega (arith, k.1, fits))) (given.0.whole name is);
        dotted = λ name is ends all at fits. ⊎_elim (λ k. k) (λ k. absurd (omega (arith, k.1, fits))) (given.0.dotted name is ends all at);
        zone = λ name is ends all at fits. ⊎_elim (λ k. k) (λ k. absurd (omega (arith, k.1, fits))) (given.0.zone name is ends all at);
        relative = λ name is some fits. ⊎_elim (λ k. k) (λ k. absurd (omega (arith, k.1, fits))) (given.0.relative name is some);
        relative_zone = λ name is some all at fits. ⊎_elim (λ k. k) (λ k. absurd (omega (arith, k.1, fits))) (given.0.relative_zone name is some all at);
      },
      given.1,
    )

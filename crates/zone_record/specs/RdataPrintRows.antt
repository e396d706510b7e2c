-- Worked rows of the definitions, each computed.
use Rattle.std.specs.Prelude.{ℕ, List}
use Rattle.dns_zone.specs.Layout.{Step}
use Rattle.zone_record.specs.RdataPrinting.{FailsInSteps}

-- a writer that fails at no step does all steps
never_fails : {F : Type 0} (blocks : F → ℕ) (gives : F → Step → F → Type 0) (fails : F → Step → Type 0) (w : F) (xs : List Step) → ((v : F) (x : Step) → fails v x → ⊥) → FailsInSteps blocks gives fails w xs → ⊥
never_fails blocks gives fails w xs none h = none h.stands h.next h.failed

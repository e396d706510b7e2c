-- The steps of a writer that prints the tokens of RDATA.
use Rattle.std.specs.Prelude.{ℕ, Result, OnOk, OnErr, ◌≡◌, List, ◌∷◌, ◌++◌, map}
use Rattle.dns_zone.specs.Layout.{Step, token}
use Rattle.dns_zone.specs.Writers.{WritesSteps}
use Rattle.rdata.specs.Printing.{token_bytes}
use Rattle.rdata.specs.Rests.{PrintedToken}

abbrev pub token_step : PrintedToken → Step
token_step t = token (token_bytes t)

abbrev pub token_steps : List PrintedToken → List Step
token_steps tokens = map token_step tokens

-- a writer did the first steps of a list, and failed at the next
pub record FailsInSteps {F : Type 0} (blocks : F → ℕ) (step_gives : F → Step → F → Type 0) (step_fails : F → Step → Type 0) (w : F) (xs : List Step) : Type 0 where
  pub taken : List Step
  pub next : Step
  pub left : List Step
  pub steps_are : xs ≡ taken ++ next ∷ left
  pub stands : F
  pub steps : WritesSteps blocks step_gives w taken stands
  pub failed : step_fails stands next

-- a writer printed these tokens one by one
abbrev pub PrintsTokens : {F R E : Type 0} → (F → ℕ) → (F → Step → F → Type 0) → F → List PrintedToken → Result R E → F → Type 0
PrintsTokens blocks step_gives old tokens result new = OnOk result (WritesSteps blocks step_gives old (token_steps tokens) new)

-- or it failed at one of them, after it printed those before
abbrev pub FailsInTokens : {F R E : Type 0} → (F → ℕ) → (F → Step → F → Type 0) → (F → Step → Type 0) → F → List PrintedToken → Result R E → Type 0
FailsInTokens blocks step_gives step_fails old tokens result = OnErr result (FailsInSteps blocks step_gives step_fails old (token_steps tokens))

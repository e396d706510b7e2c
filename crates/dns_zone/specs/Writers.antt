-- The words of the contracts of writers and of printed values.
use Rattle.std.specs.Prelude.{◌≡◌, ◌<◌, ◌⊎◌, ℕ, ◌+◌, ◌-◌, List, ◌∷◌, Option, Result, IfSome, OnOk, OnErr}
use Rattle.std.specs.List.{FoldsTo}
use Rattle.std.specs.Fmt.{WritesInCalls}
use Rattle.dns_zone.specs.Layout.{Step, token, begin, end, comment, newline, depth}

-- the open blocks after a step, from those before it
abbrev pub opened : Step → ℕ → ℕ
opened begin n = n + 1
opened end n = n - 1
opened (token bs) n = n
opened (comment bs) n = n
opened newline n = n

-- a step of a writer that succeeded
pub record WritesStep {F : Type 0} (blocks : F → ℕ) (step_gives : F → Step → F → Type 0) (w : F) (x : Step) (v : F) : Type 0 where
  pub opens : blocks v ≡ opened x (blocks w)
  pub gives : step_gives w x v

-- the steps of a list in turn, between two states with equally many open blocks
pub record WritesSteps {F : Type 0} (blocks : F → ℕ) (step_gives : F → Step → F → Type 0) (w : F) (xs : List Step) (v : F) : Type 0 where
  pub level : blocks v ≡ blocks w
  pub steps : FoldsTo step_gives w xs v

-- these steps in order, if the result is `Ok`
abbrev pub StepsOnOk : {F E : Type 0} → (F → ℕ) → (F → Step → F → Type 0) → F → Result (Unit {0}) E → List Step → F → Type 0
StepsOnOk blocks step_gives w r xs v = OnOk r (WritesSteps blocks step_gives w xs v)

-- a token or a comment by its text, if the result is `Ok` and a `Display` states the text
abbrev pub TextOnOk : {F E : Type 0} → (F → Step → F → Type 0) → (List ℕ → Step) → F → Result (Unit {0}) E → Option (List ℕ) → F → Type 0
TextOnOk step_gives step w r text v = OnOk r (IfSome text (λ bs. step_gives w (step bs) v))

-- such a step that failed
abbrev pub TextOnErr : {F E : Type 0} → (F → Step → Type 0) → (List ℕ → Step) → F → Result (Unit {0}) E → Option (List ℕ) → Type 0
TextOnErr step_fails step w r text = OnErr r (IfSome text (λ bs. step_fails w (step bs)))

-- the effect of a step of a writer over a sink: after the steps `past`, it appends the text of that step,
-- and is then after that step too
pub record Prints {F W : Type 0} (stands : F → List Step → Type 0) (sink : F → W) (took : W → List ℕ → W → Type 0) (piece : List Step → Step
    → List ℕ) (past : List Step) (w : F) (x : Step) (v : F) : Type 0 where
  pub next : stands v (x ∷ past)
  pub wrote : WritesInCalls took (sink w) (piece past x) (sink v)

-- the same after whatever steps the writer is
abbrev pub PrintsStep : {F W : Type 0} → (F → List Step → Type 0) → (F → W) → (W → List ℕ → W → Type 0) → (List Step → Step → List ℕ) → F → Step → F → Type 0
PrintsStep stands sink took piece w x v = (past : List Step) → stands w past → Prints stands sink took piece past w x v

-- a step that failed: the sink failed, or, after whatever steps the writer is, a count would exceed the greatest
abbrev pub FailsStep : {F : Type 0} → (F → List Step → Type 0) → Type 0 → (List Step → Step → Type 0) → F → Step → Type 0
FailsStep stands refused passes w x = refused ⊎ ((past : List Step) → stands w past → passes past x)

-- after the steps of `past`, a step makes the open blocks exceed `most`
abbrev pub BlocksPass : ℕ → List Step → Step → Type 0
BlocksPass most past begin = most < depth (begin ∷ past)
BlocksPass most past (token bs) = ⊥
BlocksPass most past end = ⊥
BlocksPass most past (comment bs) = ⊥
BlocksPass most past newline = ⊥

-- The cause of a scanner's error.
use Rattle.std.specs.Prelude.{ℕ, List, Result, IsErrAnd, ◌≡◌}

-- which call made an error of a scanner
pub data Cause : Type 0 where
  custom_text : List ℕ → Cause
  end_of_entry : Cause
  short_buf : Cause
  trailing_tokens : Cause

-- an error made by that call
abbrev pub IsCause : {E V : Type 0} → (E → Cause) → Result V E → Cause → Type 0
IsCause cause r c = IsErrAnd r (λ e. cause e ≡ c)

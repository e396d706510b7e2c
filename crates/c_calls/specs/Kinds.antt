-- The result of parsing a word of a kind.
use Rattle.std.specs.Prelude.{◌≡◌, ◌⊎◌, ℕ, List}
use Rattle.c_calls.specs.Reports.{ReportsFault, at_start}
use Rattle.c_calls.specs.declared.outcome.Outcome.{Outcome}
use Rattle.c_calls.specs.declared.outcome.Refusal.{Refusal}

-- the number that the text spells is returned; or it doesn't spell one, which is reported, and the number is unchanged. The length is 0
abbrev pub ReportsCode : (List ℕ → ℕ → Type 0) → Refusal → List ℕ → ℕ → ℕ → ℕ → Outcome → Type 0
ReportsCode Spells refusal text old status new outcome =
    ((status ≡ 0) × (outcome ≡ record { length = 0; place = 0 }) × Spells text new)
    ⊎ (ReportsFault (at_start refusal) status outcome × (new ≡ old) × ((v : ℕ) → Spells text v → ⊥))

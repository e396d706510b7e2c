-- The octets of a step of a converter.
use Rattle.std.specs.Prelude.{◌≡◌, ℕ, List, [], Option, Some, None, Result, Ok, Err}
use Rattle.std.specs.Borrow.{Bor}
use Rattle.dns_symbol.specs.Cause.{Cause, custom_text}

-- the octets of a step, or its error
abbrev pub handed : {E : Type 0} → Result (Unit {0}) E → List ℕ → Result (List ℕ) E
handed (Ok u) octets = Ok octets
handed (Err e) octets = Err e

-- the octets of a returned slice, or none, or the error
abbrev pub lent_octets : {E : Type 0} → Result (Option (Bor (List ℕ))) E → Result (List ℕ) E
lent_octets (Ok (Some b)) = Ok b.now
lent_octets (Ok None) = Ok []
lent_octets (Err e) = Err e

-- a converter's result is these octets, or an error with that text
abbrev pub IsAnswer : {E : Type 0} → (E → Cause) → Result (List ℕ) E → Result (List ℕ) (List ℕ) → Type 0
IsAnswer cause (Ok octets) (Ok expected) = octets ≡ expected
IsAnswer cause (Ok octets) (Err text) = ⊥
IsAnswer cause (Err e) (Ok expected) = ⊥
IsAnswer cause (Err e) (Err text) = cause e ≡ custom_text text

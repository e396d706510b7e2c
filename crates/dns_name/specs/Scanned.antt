-- Names that are parsed from tokens.
use Rattle.std.specs.Prelude.{ℕ, List, Result, Ok, Err}
use Rattle.dns_name.specs.declared.name.UncertainName.{UncertainName}
use Rattle.dns_name.specs.declared.name.UncertainName.TheVariants.{Absolute, Relative}

-- the result of parsing a token as an absolute name
abbrev pub ReadsUncertain : {O E : Type 0} → (Result (List (List ℕ)) E → Type 0) → Result (UncertainName O) E → Type 0
ReadsUncertain reads (Ok (Absolute name)) = reads (Ok name)
ReadsUncertain reads (Ok (Relative name)) = ⊥
ReadsUncertain reads (Err e) = reads (Err e)

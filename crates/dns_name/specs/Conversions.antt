-- Names made absolute.
use Rattle.std.specs.Prelude.{◌≡◌, ℕ, List, Result, Ok}
use Rattle.dns_octets.specs.Room.{Room}
use Rattle.dns_wire.specs.Building.{AnswersRoot}
use Rattle.dns_wire.specs.declared.error.PushError.{PushError}
use Rattle.dns_name.specs.declared.name.UncertainName.{UncertainName}
use Rattle.dns_name.specs.declared.name.UncertainName.TheVariants.{Absolute, Relative}

-- an absolute name is itself; a relative one gets the root, within the guaranteed and the maximum capacity
abbrev pub AnswersAbsolute : {O : Type 0} → UncertainName O → Room → Result (List (List ℕ)) PushError → Type 0
AnswersAbsolute (Absolute name) room result = result ≡ Ok name
AnswersAbsolute (Relative name) room result = AnswersRoot name room result

-- What is passed on for the symbols of a token.
use Rattle.std.specs.Prelude.{Result}
use Rattle.dns_symbol.specs.declared.symbol.Symbol.{Symbol}

-- a step at what the symbol becomes
abbrev pub HandedAs : {F X E : Type 0} → (Symbol → X → Type 0) → (F → X → Result (Unit {0}) E → F → Type 0) → F → Symbol → Result (Unit {0}) E → F → Type 0
HandedAs {F} {X} becomes step f s r g = (x : X) × becomes s x × step f x r g

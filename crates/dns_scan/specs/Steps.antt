-- One symbol's octets, appended to those before.
use Rattle.std.specs.Prelude.{ℕ, List, [], ◌∷◌, ◌++◌, ◌-◌, ◌<◌, ◌≤◌, ◌≡◌, length, Result, Ok, Err, ◌⊎◌, codes, encode_utf8}
use Rattle.dns_octets.specs.Room.{Room}
use Rattle.dns_symbol.specs.declared.symbol.Symbol.{Symbol}
use Rattle.dns_symbol.specs.declared.error.BadSymbol.{BadSymbol}
use Rattle.dns_symbol.specs.Symbol.{octet_of, char_of}
use Rattle.dns_symbol.specs.Cause.{Cause, custom_text, short_buf, IsCause}

-- the octets of a symbol, or the text of the error
abbrev pub bad_or : {A : Type 0} → (A → List ℕ) → Result A BadSymbol → Result (List ℕ) (List ℕ)
bad_or octets (Ok x) = Ok (octets x)
bad_or octets (Err e) = Err (codes "bad symbol")

-- a symbol's octet
abbrev pub step_octet : Symbol → Result (List ℕ) (List ℕ)
step_octet x = bad_or (λ o. o ∷ []) (octet_of x)

-- a symbol's character, in UTF-8
abbrev pub step_text : Symbol → Result (List ℕ) (List ℕ)
step_text x = bad_or encode_utf8 (char_of x)

-- a builder with that room
module _ {E : Type 0} (cause : E → Cause) (room : Room) where
  -- these octets were appended to b and all are within its capacity; or they exceeded the guaranteed one, and none was appended
  abbrev pub Grows : List ℕ → List ℕ → Result (Unit {0}) E → List ℕ → Type 0
  Grows o b r c = ((r ≡ Ok tt) × (c ≡ b ++ o) × (0 < length o → length c ≤ room.capacity)) ⊎ (IsCause cause r short_buf × (c ≡ b) × (room.fits - length b < length o))

  -- the octets of one symbol were appended, or the error has that text
  abbrev pub AppendsSymbol : Result (List ℕ) (List ℕ) → List ℕ → Result (Unit {0}) E → List ℕ → Type 0
  AppendsSymbol (Ok o) b r c = Grows o b r c
  AppendsSymbol (Err text) b r c = IsCause cause r (custom_text text) × (c ≡ b)

  -- the octets of a converter were appended, or it returned its own error
  abbrev pub Adds : Result (List ℕ) E → List ℕ → Result (Unit {0}) E → List ℕ → Type 0
  Adds (Ok o) b r c = Grows o b r c
  Adds (Err e) b r c = (r ≡ Err e) × (c ≡ b)

  -- the octets of a symbol
  abbrev pub HasStepOctets : (Symbol → Result (List ℕ) (List ℕ)) → List ℕ → Symbol → Result (Unit {0}) E → List ℕ → Type 0
  HasStepOctets given b x r c = AppendsSymbol (given x) b r c

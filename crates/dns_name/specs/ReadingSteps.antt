-- One symbol, or the end, of a name's text that is read into a builder.
use Rattle.std.specs.Prelude.{◌≡◌, ◌≢◌, ◌⊎◌, ℕ, ◌+◌, ◌<◌, ◌≤◌, List, [], ◌∷◌, ◌++◌, length, Result, Ok, Err}
use Rattle.dns_octets.specs.Room.{Room}
use Rattle.dns_symbol.specs.Symbol.{octet_of}
use Rattle.dns_symbol.specs.declared.symbol.Symbol.{Symbol}
use Rattle.dns_symbol.specs.declared.error.BadSymbol.{BadSymbol}
use Rattle.dns_wire.specs.Wire.{wire_length}
use Rattle.dns_wire.specs.Building.{Naming, all_labels, with_octet}
use Rattle.dns_name.specs.Reading.{bracket}
use Rattle.dns_name.specs.declared.name.UncertainName.{UncertainName}
use Rattle.dns_name.specs.declared.name.UncertainName.TheVariants.{Absolute, Relative}
use Rattle.dns_name.specs.declared.name.error.FromStrError.{FromStrError}
use Rattle.dns_name.specs.declared.name.error.FromStrError.TheVariants.{Symbol as NoSymbol, BadOctet, BinaryLabel, EmptyLabel, LongLabel, LongName, ShortBuf}
use Rattle.dns_wire.specs.Limits.{max_label, max_relative}

-- the symbol has that octet, and may come next
abbrev pub SymbolHasOctet : Naming → Symbol → ℕ → Type 0
SymbolHasOctet b x octet = (octet_of x ≡ Ok octet) × (b.current ≡ [] → x ≢ bracket)

-- the result of a symbol other than a plain dot, and the state of the builder after it
abbrev pub PushesSymbol : Room → Naming → Symbol → Result (Unit {0}) FromStrError → Naming → Type 0
PushesSymbol room b x (Ok _) new =
    (octet : ℕ) × SymbolHasOctet b x octet × (new ≡ with_octet b octet) × (wire_length (all_labels (with_octet b octet)) ≤ max_relative)
    × (length b.current < max_label) × (wire_length (all_labels (with_octet b octet)) ≤ room.capacity)
PushesSymbol room b x (Err BinaryLabel) new = (b.current ≡ []) × (x ≡ bracket)
PushesSymbol room b x (Err BadOctet) new = (e : BadSymbol) × (octet_of x ≡ Err e)
PushesSymbol room b x (Err LongName) new = (octet : ℕ) × SymbolHasOctet b x octet × (max_relative < wire_length (all_labels (with_octet b octet)))
PushesSymbol room b x (Err LongLabel) new =
    (octet : ℕ) × SymbolHasOctet b x octet × (wire_length (all_labels (with_octet b octet)) ≤ max_relative) × (max_label ≤ length b.current)
PushesSymbol room b x (Err ShortBuf) new =
    (octet : ℕ) × SymbolHasOctet b x octet × (wire_length (all_labels (with_octet b octet)) ≤ max_relative) × (length b.current < max_label)
    × (room.fits < wire_length (all_labels (with_octet b octet)))
PushesSymbol room b x (Err EmptyLabel) new = ⊥
PushesSymbol room b x (Err (NoSymbol e)) new = ⊥

module _ {O : Type 0} where
  -- the result of appending the root after the labels
  abbrev pub MakesAbsolute : Room → Naming → Result (UncertainName O) FromStrError → Type 0
  MakesAbsolute room b (Ok (Absolute name)) = (name ≡ all_labels b ++ [] ∷ []) × (wire_length (all_labels b) + 1 ≤ room.capacity)
  MakesAbsolute room b (Ok (Relative name)) = ⊥
  MakesAbsolute room b (Err ShortBuf) = room.fits < wire_length (all_labels b) + 1
  MakesAbsolute room b (Err BinaryLabel) = ⊥
  MakesAbsolute room b (Err BadOctet) = ⊥
  MakesAbsolute room b (Err LongName) = ⊥
  MakesAbsolute room b (Err LongLabel) = ⊥
  MakesAbsolute room b (Err EmptyLabel) = ⊥
  MakesAbsolute room b (Err (NoSymbol e)) = ⊥

  -- the result of the end of the text: a name with an open label, or without any, is relative
  abbrev pub Finishes : Room → Naming → Result (UncertainName O) FromStrError → Type 0
  Finishes room b result =
      ((name : List (List ℕ)) × (result ≡ Ok (Relative name)) × (name ≡ all_labels b) × (b.current ≡ [] → b.labels ≡ []))
      ⊎ ((b.current ≡ []) × (b.labels ≢ []) × MakesAbsolute room b result)

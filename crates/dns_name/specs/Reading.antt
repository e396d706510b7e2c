-- Parsing a name from its text (RFC 1035 section 5.1).
use Rattle.std.specs.Prelude.{◌≡◌, ◌≢◌, ◌⊎◌, ℕ, ◌+◌, ◌<◌, ◌≤◌, Bool, true, false, ◌==◌, not, List, [], ◌∷◌, ◌++◌, length, map, All, Option, Some, Result, Ok, Err, encode_utf8_all}
use Rattle.std.specs.List.{flat_map, list_all, AllZip}
use Rattle.std.specs.Iterator.{Yields, Drains}
use Rattle.dns_octets.specs.Room.{Room}
use Rattle.dns_symbol.specs.Characters.{dot}
use Rattle.dns_symbol.specs.Symbol.{bytes, is_readable, octet_of}
use Rattle.dns_symbol.specs.Text.{EndsAs}
use Rattle.dns_symbol.specs.declared.symbol.Symbol.{Symbol}
use Rattle.dns_symbol.specs.declared.symbol.Symbol.TheVariants.{Char, SimpleEscape, DecimalEscape}
use Rattle.dns_symbol.specs.declared.error.BadSymbol.{BadSymbol}
use Rattle.dns_wire.specs.Wire.{wire_length}
use Rattle.dns_wire.specs.Building.{closed}
use Rattle.dns_name.specs.Uncertain.{labels_of}
use Rattle.dns_name.specs.declared.name.UncertainName.{UncertainName}
use Rattle.dns_name.specs.declared.name.UncertainName.TheVariants.{Absolute, Relative}
use Rattle.dns_name.specs.declared.name.error.FromStrError.{FromStrError}
use Rattle.dns_name.specs.declared.name.error.FromStrError.TheVariants.{Symbol as NoSymbol, BadOctet, BinaryLabel, EmptyLabel, LongLabel, LongName, ShortBuf}
use Rattle.dns_wire.specs.Limits.{max_label, max_relative}

-- a plain dot
abbrev pub is_dot : Symbol → Bool
is_dot (Char c) = c == dot
is_dot (SimpleEscape o) = false
is_dot (DecimalEscape o) = false

-- an escaped opening bracket, which makes a label binary if it comes first (RFC 2673)
abbrev pub bracket : Symbol
bracket = SimpleEscape 91

-- the symbols of a label: no plain dot, no bracket at the beginning, and at most 63 octets
pub record SpellsLabel (spelling : List Symbol) (label : List ℕ) : Type 0 where
  pub octets_are : map octet_of spelling ≡ map Ok label
  pub no_dot : list_all (λ x. not (is_dot x)) spelling ≡ true
  pub no_binary : (more : List Symbol) → spelling ≡ bracket ∷ more → ⊥
  pub short : length label ≤ max_label

-- spellings, with a plain dot after each
abbrev pub dotted : List (List Symbol) → List Symbol
dotted = flat_map (λ spelling. spelling ++ Char dot ∷ [])

-- the symbols are the spellings of finished labels, a plain dot after each, and the spelling of the open label; no finished label is empty, and
-- all have at most 254 octets
pub record Names (symbols : List Symbol) (labels : List (List ℕ)) (current : List ℕ) : Type 0 where
  pub spellings : List (List Symbol)
  pub last : List Symbol
  pub joined : symbols ≡ dotted spellings ++ last
  pub finished : AllZip SpellsLabel spellings labels
  pub opened : SpellsLabel last current
  pub some : All (λ label. 0 < length label) labels
  pub fits : wire_length (labels ++ closed current) ≤ max_relative

-- the text begins with symbols that name these labels and the open one, and continues with the rest
pub record HasNamed (text : List ℕ) (labels : List (List ℕ)) (current rest : List ℕ) : Type 0 where
  pub symbols : List Symbol
  pub readable : list_all is_readable symbols ≡ true
  pub spelled : text ≡ flat_map bytes symbols ++ rest
  pub names : Names symbols labels current

-- the same, where the next symbol is x, other than a plain dot
pub record HasNamedBefore (text : List ℕ) (labels : List (List ℕ)) (current : List ℕ) (x : Symbol) : Type 0 where
  pub rest : List ℕ
  pub named : HasNamed text labels current (bytes x ++ rest)
  pub readable : is_readable x ≡ true
  pub no_dot : is_dot x ≡ false

-- the same, if the symbol extends the open label by an octet
abbrev pub HasNamedNext : List ℕ → List (List ℕ) → List ℕ → ℕ → Type 0
HasNamedNext text labels current octet =
    (x : Symbol) × HasNamedBefore text labels current x × (current ≡ [] → x ≢ bracket) × (octet_of x ≡ Ok octet)

module _ {O : Type 0} where
  -- the text is that of the name: no text is the empty relative name, a dot is the root, and another name is absolute exactly if a dot ends it
  abbrev pub ReadsAs : List ℕ → UncertainName O → Type 0
  ReadsAs text (Relative name) =
      (labels : List (List ℕ)) × (current : List ℕ) × HasNamed text labels current [] × (name ≡ labels ++ closed current) × (current ≡ [] → text ≡ [])
  ReadsAs text (Absolute name) =
      ((text ≡ dot ∷ []) × (name ≡ [] ∷ []))
      ⊎ ((labels : List (List ℕ)) × HasNamed text labels [] [] × (labels ≢ []) × (name ≡ labels ++ [] ∷ []))

  -- the result of parsing a text with a builder of that room: its name, or the error of the earliest symbol, with the
  -- labels before it
  abbrev pub ReadsName : Room → List ℕ → Result (UncertainName O) FromStrError → Type 0
  ReadsName room text (Ok name) = ReadsAs text name × (wire_length (labels_of name) ≤ room.capacity)
  ReadsName room text (Err (NoSymbol e)) =
      (labels : List (List ℕ)) × (current : List ℕ) × (rest : List ℕ) × HasNamed text labels current rest × EndsAs rest (Some e)
      × (wire_length (labels ++ closed current) ≤ room.capacity)
  ReadsName room text (Err EmptyLabel) =
      (labels : List (List ℕ)) × (rest : List ℕ) × HasNamed text labels [] (dot ∷ rest) × (labels ≡ [] → rest ≢ []) × (wire_length labels ≤ room.capacity)
  ReadsName room text (Err BinaryLabel) =
      (labels : List (List ℕ)) × HasNamedBefore text labels [] bracket × (wire_length labels ≤ room.capacity)
  ReadsName room text (Err BadOctet) =
      (labels : List (List ℕ)) × (current : List ℕ) × (x : Symbol) × (e : BadSymbol) × HasNamedBefore text labels current x × (octet_of x ≡ Err e)
      × (wire_length (labels ++ closed current) ≤ room.capacity)
  ReadsName room text (Err LongName) =
      (labels : List (List ℕ)) × (current : List ℕ) × (octet : ℕ) × HasNamedNext text labels current octet
      × (max_relative < wire_length (labels ++ closed (current ++ octet ∷ []))) × (wire_length (labels ++ closed current) ≤ room.capacity)
  ReadsName room text (Err LongLabel) =
      (labels : List (List ℕ)) × (current : List ℕ) × (octet : ℕ) × HasNamedNext text labels current octet
      × (wire_length (labels ++ closed (current ++ octet ∷ [])) ≤ max_relative) × (length current ≡ max_label) × (wire_length (labels ++ closed current) ≤ room.capacity)
  ReadsName room text (Err ShortBuf) =
      ((labels : List (List ℕ)) × (current : List ℕ) × (octet : ℕ) × HasNamedNext text labels current octet
      × (wire_length (labels ++ closed (current ++ octet ∷ [])) ≤ max_relative) × (length current < max_label) × (wire_length (labels ++ closed current) ≤ room.capacity)
      × (room.fits < wire_length (labels ++ closed (current ++ octet ∷ []))))
      ⊎ (((text ≡ dot ∷ []) × (room.fits < 1))
      ⊎ ((labels : List (List ℕ)) × HasNamed text labels [] [] × (labels ≢ []) × (wire_length labels ≤ room.capacity) × (room.fits < wire_length labels + 1)))

  -- the result of parsing the characters of a source: they were consumed up to the end, and their text has this result; or some were,
  -- and every text that begins with them has it
  abbrev pub ReadsChars : {S : Type 0} → (S → Option ℕ → S → Type 0) → S → Room → Result (UncertainName O) FromStrError → Type 0
  ReadsChars {S} steps s room result = (taken : List ℕ) ×
      ((Drains steps s taken × ReadsName room (encode_utf8_all taken) result)
      ⊎ ((t : S) × Yields steps s taken t × ((more : List ℕ) → ReadsName room (encode_utf8_all (taken ++ more)) result)))

  -- a text that is a name is parsed as that name, if it fits the guaranteed capacity
  abbrev pub ReadsWhatFits : Room → List ℕ → Result (UncertainName O) FromStrError → Type 0
  ReadsWhatFits room text r = (name : UncertainName O) → ReadsAs text name → wire_length (labels_of name) ≤ room.fits → r ≡ Ok name

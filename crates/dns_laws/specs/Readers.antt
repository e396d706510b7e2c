-- Tokens that scanners and fields of RDATA read alike.
use Rattle.std.specs.Prelude.{ℕ, ◌≡◌, ◌==◌, not, true, List, [], ◌∷◌, ◌++◌, All, Ok, ◌≢◌, ◌≤◌, ◌↔◌, Option, false}
use Rattle.std.specs.List.{list_all}
use Rattle.dns_symbol.specs.Characters.{backslash}
use Rattle.dns_symbol.specs.declared.symbol.Symbol.{Symbol}
use Rattle.dns_name.specs.Reading.{bracket, ReadsAs}
use Rattle.dns_scan.specs.Numbers.{greatest}
use Rattle.dns_scan.specs.Reads.{NumberReads}
use Rattle.dns_scan.specs.Tokens.{Token}
use Rattle.rdata_tokens.specs.NameSpelling.{SpellsParts}
use Rattle.dns_symbol.specs.Symbol.{is_printable}
use Rattle.dns_name.specs.declared.name.UncertainName.TheVariants.{Relative}
use Rattle.dns_wire.specs.Limits.{max_name}
use Rattle.dns_wire.specs.Wire.{wire, wire_length}
use Rattle.rdata_fields.specs.Fields.{field_form}
use Rattle.rdata_fields.specs.declared.field.Field.{Field}

-- a text of printable ASCII
abbrev pub IsPrintableText : List ℕ → Type 0
IsPrintableText text = list_all is_printable text ≡ true

-- a text has no backslash
abbrev pub HasNoBackslash : List ℕ → Type 0
HasNoBackslash text = list_all (λ c. not (c == backslash)) text ≡ true

-- a label's symbols don't begin with an escaped bracket
abbrev pub IsNoBinary : List Symbol → Type 0
IsNoBinary part = (more : List Symbol) → part ≡ bracket ∷ more → ⊥

-- the same of all labels of a text
abbrev pub HasNoBinary : List ℕ → Type 0
HasNoBinary text = (parts : List (List Symbol)) (last : List Symbol) → SpellsParts text parts last → All IsNoBinary (parts ++ last ∷ [])

-- scanners parse a token as a number of these bits, and these are its octets in wire format
abbrev pub ReadsWire : ℕ → (ℕ → List ℕ) → Token → List ℕ → Type 0
ReadsWire bits wire token octets = (n : ℕ) × NumberReads (greatest bits) token (Ok n) × (octets ≡ wire n)

-- so do such fields, of every token that isn't empty
abbrev pub IsReadAlike : ℕ → (ℕ → List ℕ) → Field → Type 0
IsReadAlike bits wire field =
    (origin : Option (List (List ℕ))) (token : Token) (octets : List ℕ) → token ≢ [] → ReadsWire bits wire token octets ↔ (field_form origin field).spells false token octets

-- scanners parse a text as a relative name with a label, and this is the wire format of the name with the origin's labels
abbrev pub ReadsRelative : Type 0 → List (List ℕ) → List ℕ → List ℕ → Type 0
ReadsRelative O origin text form =
    (name : List (List ℕ)) × ReadsAs {O = O} text (Relative name) × (name ≢ []) × (wire_length (name ++ origin) ≤ max_name) × (form ≡ wire (name ++ origin))

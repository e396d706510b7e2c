-- Octets in presentation format, with escapes (RFC 1035 section 5.1).
use Rattle.std.specs.Prelude.{ℕ, ◌≡◌, ◌≢◌, ◌⊎◌, ◌<◌, true, List, [], ◌∷◌, ◌++◌, length, map, All}
use Rattle.std.specs.List.{flat_map, list_all}
use Rattle.dns_octets.specs.Room.{Room}
use Rattle.dns_octets.specs.Appending.{ExceedsRoom}
use Rattle.dns_symbol.specs.Escape.{is_spelling, octet_for}
use Rattle.dns_symbol.specs.Symbol.{spell}
use Rattle.dns_symbol.specs.declared.symbol.Symbol.{Symbol}
use Rattle.rdata_values.specs.declared.error.ErrorKind.{ErrorKind}
use Rattle.rdata_values.specs.declared.error.ErrorKind.TheVariants.{BadEscape, ShortBuf}

-- a text spells octets one after another, and then the rest follows
pub record SpellsBeginning (text octets rest : List ℕ) : Type 0 where
  pub symbols : List Symbol
  pub each : list_all is_spelling symbols ≡ true
  pub whole : text ≡ flat_map spell symbols ++ rest
  pub octets_are : octets ≡ map octet_for symbols

-- a text spells octets, any number of them
abbrev pub SpellsOctetList : List ℕ → List ℕ → Type 0
SpellsOctetList text octets = SpellsBeginning text octets []

-- what is left does not begin with an octet or an escape
pub record BeginsBadEscape (rest : List ℕ) : Type 0 where
  pub some : 0 < length rest
  pub none : (s : Symbol) (more : List ℕ) → is_spelling s ≡ true → rest ≢ spell s ++ more

-- a text spells octets up to a bad escape
abbrev pub SpellsToBadEscape : List ℕ → Type 0
SpellsToBadEscape text = (octets rest : List ℕ) × SpellsBeginning text octets rest × BeginsBadEscape rest

-- octets in wire format
abbrev pub AreOctetValues : List ℕ → Type 0
AreOctetValues octets = All (λ o. o < 256) octets

-- a beginning of a text spells these octets, of which there are some
abbrev pub BeginsWithOctets : List ℕ → List ℕ → Type 0
BeginsWithOctets text octets = (rest : List ℕ) × SpellsBeginning text octets rest × (0 < length octets)

-- why octets that a text spells were not appended: a wrong escape; or octets before one, or before the end, don't surely fit
abbrev pub RefusesOctets : Room → List ℕ → List ℕ → ErrorKind → Type 0
RefusesOctets room text old BadEscape = SpellsToBadEscape text × ((octets : List ℕ) → ¬ SpellsOctetList text octets)
RefusesOctets room text old ShortBuf = ExceedsRoom room (BeginsWithOctets text) old
RefusesOctets room text old other = ⊥

-- octets that a text spells, after an octet with a count
pub record SpellsAfterCount (count : ℕ) (text form : List ℕ) : Type 0 where
  pub octets : List ℕ
  pub spelled : SpellsOctetList text octets
  pub whole : form ≡ count ∷ octets

-- an octet with a count, and octets that a beginning of the text spells
pub record BeginsAfterCount (count : ℕ) (text form : List ℕ) : Type 0 where
  pub octets : List ℕ
  pub rest : List ℕ
  pub spelled : SpellsBeginning text octets rest
  pub whole : form ≡ count ∷ octets

-- why they were not appended
abbrev pub RefusesAfterCount : ℕ → Room → List ℕ → List ℕ → ErrorKind → Type 0
RefusesAfterCount count room text old why =
    ((why ≡ BadEscape) × (SpellsToBadEscape text × ((octets : List ℕ) → ¬ SpellsOctetList text octets)))
    ⊎ ((why ≡ ShortBuf) × ExceedsRoom room (BeginsAfterCount count text) old)

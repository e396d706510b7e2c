-- Wire formats of strings and tags: which octets are one, the length of the one that octets begin with, and what texts of them spell.
use Rattle.std.specs.Prelude.{ℕ, ◌≡◌, ◌≢◌, ◌<◌, ◌≤◌, true, List, ◌∷◌, ◌++◌, length, take, Option, Some, None}
use Rattle.std.specs.List.{list_all}
use Rattle.std.specs.Char.{is_ascii_alphanumeric}
use Rattle.dns_octets.specs.Room.{Room}
use Rattle.dns_octets.specs.Appending.{ExceedsRoom}
use Rattle.rdata_tokens.specs.Spelling.{SpellsOctetList, AreOctetValues, SpellsToBadEscape}
use Rattle.rdata_values.specs.declared.error.ErrorKind.{ErrorKind}
use Rattle.rdata_values.specs.declared.error.ErrorKind.TheVariants.{BadEscape, LongString, BadTag, ShortBuf}

-- a character string in wire format: its length octet, and at most 255 octets
pub record IsWireString (form : List ℕ) : Type 0 where
  pub octets : List ℕ
  pub values : AreOctetValues octets
  pub short : length octets ≤ 255
  pub whole : form ≡ length octets ∷ octets

-- a text spells the octets of a character string
pub record SpellsString (text form : List ℕ) : Type 0 where
  pub octets : List ℕ
  pub spelled : SpellsOctetList text octets
  pub short : length octets ≤ 255
  pub whole : form ≡ length octets ∷ octets

-- 1 to 255 letters or digits
pub record IsTag (tag : List ℕ) : Type 0 where
  pub some : 0 < length tag
  pub short : length tag ≤ 255
  pub letters : list_all is_ascii_alphanumeric tag ≡ true

-- a tag in wire format: its length octet, and its letters and digits
pub record IsWireTag (form : List ℕ) : Type 0 where
  pub tag : List ℕ
  pub is_tag : IsTag tag
  pub whole : form ≡ length tag ∷ tag

-- a text is a tag, as it is
abbrev pub SpellsTag : List ℕ → List ℕ → Type 0
SpellsTag text form = IsTag text × (form ≡ length text ∷ text)

-- octets begin with the form of this width, or do not begin with one
abbrev pub FindsWidth : (List ℕ → Type 0) → List ℕ → Option ℕ → Type 0
FindsWidth Is octets (Some width) = (width ≤ length octets) × Is (take width octets)
FindsWidth Is octets None = (form rest : List ℕ) → Is form → octets ≢ form ++ rest

-- What a text spells is a form; the text that a form prints as spells it; a text spells one form;
-- and octets begin with one form at most.
pub record AreSpelled (Is : List ℕ → Type 0) (Spells : List ℕ → List ℕ → Type 0) (printed : List ℕ → List ℕ) : Type 0 where
  pub spelled : (text form : List ℕ) → AreOctetValues text → Spells text form → Is form
  pub back : (form : List ℕ) → Is form → Spells (printed form) form
  pub once : (text a b : List ℕ) → Spells text a → Spells text b → a ≡ b

pub record AreSelfDelimiting (Is : List ℕ → Type 0) : Type 0 where
  pub width : (form rest : List ℕ) (found : Option ℕ) → Is form → FindsWidth Is (form ++ rest) found → found ≡ Some (length form)

-- why a character string was not appended. The text is read whole before an octet is appended
abbrev pub RefusesString : Room → List ℕ → List ℕ → ErrorKind → Type 0
RefusesString room text old BadEscape = SpellsToBadEscape text × ((octets : List ℕ) → ¬ SpellsOctetList text octets)
RefusesString room text old LongString = (octets : List ℕ) × SpellsOctetList text octets × (255 < length octets)
RefusesString room text old ShortBuf = ExceedsRoom room (SpellsString text) old
RefusesString room text old other = ⊥

-- why a tag was not appended
abbrev pub RefusesTag : Room → List ℕ → List ℕ → ErrorKind → Type 0
RefusesTag room text old BadTag = ¬ IsTag text
RefusesTag room text old ShortBuf = ExceedsRoom room (SpellsTag text) old
RefusesTag room text old other = ⊥

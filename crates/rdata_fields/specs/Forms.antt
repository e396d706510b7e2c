-- The form of a field of RDATA: the tokens that spell it, its octets in wire format, and the token
-- that it prints as.
use Rattle.std.specs.Prelude.{ℕ, ◌≡◌, ◌<◌, ◌≤◌, ◌⊎◌, Bool, true, false, if◌then◌else◌, List, [], ◌∷◌, ◌++◌, length, drop, Option, Result, OnOk, OnErr, IfErr}
use Rattle.std.specs.Char.{is_ascii_digit}
use Rattle.std.specs.List.{list_all}
use Rattle.dns_octets.specs.Room.{Room}
use Rattle.dns_octets.specs.Appending.{Extends, Gains, ExceedsRoom}
use Rattle.dns_symbol.specs.Characters.{double_quote}
use Rattle.rdata_tokens.specs.Spelling.{AreOctetValues, SpellsToBadEscape, SpellsOctetList}
use Rattle.rdata_tokens.specs.Forms.{AreSelfDelimiting, IsWireString, SpellsString, IsTag, IsWireTag, SpellsTag}
use Rattle.rdata_tokens.specs.NameSpelling.{SpellsName, BeginsName, IsWireName, WhyNoName}
use Rattle.rdata_tokens.specs.PrintedNames.{wire_name_text}
use Rattle.rdata_tokens.specs.Shown.{string_in_quotes, tag_text}
use Rattle.dns_codec.specs.Base.{base32hex, encoded}
use Rattle.rdata_tokens.specs.Hashes.{SpellsHash, hash_refusal}
use Rattle.rdata_values.specs.Salt.{SpellsSalt, salt_text}
use Rattle.rdata_values.specs.declared.error.ErrorKind.{ErrorKind}
use Rattle.rdata_values.specs.declared.error.ErrorKind.TheVariants.{ShortBuf, Quoted, QuotedName, BadEscape, LongString, BadTag, ExpectedSalt, ExpectedPsdnAddress}
use Rattle.rdata_fields.specs.Words.{SpellsAs, AreOctetsOf}

pub record FieldForm : Type 1 where
  -- a token, by whether it is a quoted string and by its text, spells a field of these octets
  pub spells : Bool → List ℕ → List ℕ → Type 0
  -- octets that a beginning of the token spells: those of the whole field, if a token is read whole before an octet is appended
  pub begins : Bool → List ℕ → List ℕ → Type 0
  -- why a token that spells none is rejected
  pub reason : Bool → List ℕ → ErrorKind → Type 0
  -- the octets that a field can have
  pub is_wire : List ℕ → Type 0
  -- whether it prints as a quoted string, and the text of that token
  pub quotes : Bool
  pub printed : List ℕ → List ℕ

-- the token that a field prints as
abbrev pub token_text : FieldForm → List ℕ → List ℕ
token_text f octets = if f.quotes then double_quote ∷ (f.printed octets ++ double_quote ∷ []) else f.printed octets

-- Each token spells octets of one field, and a beginning of it no more octets. What a field prints
-- as spells it. And octets begin with one field at most.
pub record IsFieldForm (f : FieldForm) : Type 0 where
  pub are_wire : (quoted : Bool) (text octets : List ℕ) → AreOctetValues text → f.spells quoted text octets → f.is_wire octets
  pub back : (octets : List ℕ) → f.is_wire octets → f.spells f.quotes (f.printed octets) octets
  pub once : (quoted : Bool) (text a b : List ℕ) → f.spells quoted text a → f.spells quoted text b → a ≡ b
  pub begun : (quoted : Bool) (text front octets : List ℕ) → f.begins quoted text front → f.spells quoted text octets → length front ≤ length octets
  pub in_front : AreSelfDelimiting f.is_wire

-- why a word is rejected: it is a quoted string; or it spells no value of its kind
abbrev pub WordReason : (List ℕ → ErrorKind → Type 0) → Bool → List ℕ → ErrorKind → Type 0
WordReason reason quoted text e = ((e ≡ Quoted) × (quoted ≡ true)) ⊎ ((quoted ≡ false) × reason text e)

-- a word of a kind whose values have `width` octets
abbrev pub word_form : {V : Type 0} → ℕ → (V → Type 0) → (List ℕ → V → Type 0) → (List ℕ → ErrorKind → Type 0) → (V → List ℕ) → (List ℕ → List ℕ) → FieldForm
word_form width valid spells reason wire printed = record {
  spells = λ quoted text octets. (quoted ≡ false) × SpellsAs valid spells wire text octets;
  begins = λ quoted text octets. (quoted ≡ false) × SpellsAs valid spells wire text octets;
  reason = WordReason reason;
  is_wire = AreOctetsOf width;
  quotes = false;
  printed = printed;
}

-- why a text does not spell a character string: it has a wrong escape, or spells too many octets
abbrev pub StringReason : Bool → List ℕ → ErrorKind → Type 0
StringReason quoted text BadEscape = SpellsToBadEscape text
StringReason quoted text LongString = (octets : List ℕ) × SpellsOctetList text octets × (255 < length octets)
StringReason quoted text other = ⊥

-- a character string, quoted or not; it prints in quotes
abbrev pub string_form : FieldForm
string_form = record {
  spells = λ quoted text octets. SpellsString text octets;
  begins = λ quoted text octets. SpellsString text octets;
  reason = StringReason;
  is_wire = IsWireString;
  quotes = true;
  printed = string_in_quotes;
}

-- an address of a public switched data network (RFC 1183 section 3.1): 4 to 255 digits
pub record IsPsdnAddress (digits : List ℕ) : Type 0 where
  pub enough : 4 ≤ length digits
  pub short : length digits ≤ 255
  pub digital : list_all is_ascii_digit digits ≡ true

-- in wire format it is a character string
pub record IsWirePsdnAddress (form : List ℕ) : Type 0 where
  pub digits : List ℕ
  pub is_address : IsPsdnAddress digits
  pub whole : form ≡ length digits ∷ digits

-- a text is an address, as it is
abbrev pub SpellsPsdnAddress : List ℕ → List ℕ → Type 0
SpellsPsdnAddress text form = IsPsdnAddress text × (form ≡ length text ∷ text)

abbrev pub PsdnAddressReason : Bool → List ℕ → ErrorKind → Type 0
PsdnAddressReason quoted text e = (e ≡ ExpectedPsdnAddress) × (IsPsdnAddress text → ⊥)

-- an address, quoted or not; it prints in quotes
abbrev pub psdn_address_form : FieldForm
psdn_address_form = record {
  spells = λ quoted text octets. SpellsPsdnAddress text octets;
  begins = λ quoted text octets. SpellsPsdnAddress text octets;
  reason = PsdnAddressReason;
  is_wire = IsWirePsdnAddress;
  quotes = true;
  printed = string_in_quotes;
}

-- why a token is not a tag
abbrev pub TagReason : Bool → List ℕ → ErrorKind → Type 0
TagReason quoted text e = ((e ≡ Quoted) × (quoted ≡ true)) ⊎ ((e ≡ BadTag) × (quoted ≡ false) × (IsTag text → ⊥))

-- a tag, without quotes
abbrev pub tag_form : FieldForm
tag_form = record {
  spells = λ quoted text octets. (quoted ≡ false) × SpellsTag text octets;
  begins = λ quoted text octets. (quoted ≡ false) × SpellsTag text octets;
  reason = TagReason;
  is_wire = IsWireTag;
  quotes = false;
  printed = tag_text;
}

-- a text spells a salt, whose octets follow their length
pub record SpellsWireSalt (text form : List ℕ) : Type 0 where
  pub octets : List ℕ
  pub spelled : SpellsSalt text octets
  pub whole : form ≡ length octets ∷ octets

abbrev pub salt_form : FieldForm
salt_form = record {
  spells = λ quoted text octets. (quoted ≡ false) × SpellsWireSalt text octets;
  begins = λ quoted text octets. (quoted ≡ false) × SpellsWireSalt text octets;
  reason = WordReason (λ _ e. e ≡ ExpectedSalt);
  is_wire = IsWireString;
  quotes = false;
  printed = λ form. salt_text (drop 1 form);
}

-- 1 to 255 octets of a hash after their length
pub record IsWireHash (form : List ℕ) : Type 0 where
  pub octets : List ℕ
  pub values : AreOctetValues octets
  pub some : 0 < length octets
  pub short : length octets ≤ 255
  pub whole : form ≡ length octets ∷ octets

-- why a token is not a hash: it is a quoted string; or its digits are not those of a hash
abbrev pub HashReason : Bool → List ℕ → ErrorKind → Type 0
HashReason quoted text e = ((e ≡ Quoted) × (quoted ≡ true)) ⊎ ((e ≡ hash_refusal text) × (quoted ≡ false))

-- a hash in base 32 hex without padding, as one word
abbrev pub hash_form : FieldForm
hash_form = record {
  spells = λ quoted text octets. (quoted ≡ false) × SpellsHash text octets;
  begins = λ quoted text octets. (quoted ≡ false) × SpellsHash text octets;
  reason = HashReason;
  is_wire = IsWireHash;
  quotes = false;
  printed = λ form. encoded base32hex (drop 1 form);
}

-- why a token is not a name: it is a quoted string; or something is wrong with the text
abbrev pub NameReason : Option (List (List ℕ)) → Bool → List ℕ → ErrorKind → Type 0
NameReason origin quoted text e = ((e ≡ QuotedName) × (quoted ≡ true)) ⊎ ((quoted ≡ false) × WhyNoName origin text e)

-- a name, without quotes; the origin is appended to a relative name
abbrev pub name_form : Option (List (List ℕ)) → FieldForm
name_form origin = record {
  spells = λ quoted text octets. (quoted ≡ false) × SpellsName origin text octets;
  begins = λ quoted text octets. (quoted ≡ false) × BeginsName origin text octets;
  reason = NameReason origin;
  is_wire = IsWireName;
  quotes = false;
  printed = wire_name_text;
}

-- why a token is rejected as a field: octets that a beginning of it spells don't surely fit; or it spells none, for this reason
abbrev pub RefusesField : Room → (List ℕ → Type 0) → (List ℕ → Type 0) → (ErrorKind → Type 0) → List ℕ → ErrorKind → Type 0
RefusesField room begun spelled reason old e = ((e ≡ ShortBuf) × ExceedsRoom room begun old) ⊎ (reason e × ((octets : List ℕ) → spelled octets → ⊥))

-- A token is parsed as a field: the target gains the octets that it spells. Or it is rejected, and
-- the target has its old octets, perhaps with more after them.
pub record ReadsField (room : Room) (f : FieldForm) (quoted : Bool) (text old : List ℕ) (r : Result (Unit {0}) ErrorKind) (new : List ℕ) : Type 0 where
  pub gains : OnOk r (Gains (f.spells quoted text) old new)
  pub refused : IfErr r (RefusesField room (f.begins quoted text) (f.spells quoted text) (f.reason quoted text) old)
  pub extends : OnErr r (Extends old new)

-- The kinds of tails, which go to the end of an entry.
use Rattle.std.specs.Prelude.{ℕ, zero, suc, ◌≡◌, ◌≤◌, ◌⊎◌, Bool, true, false, Option, None, List, [], ◌∷◌, ◌++◌, map, take, drop, length}
use Rattle.std.specs.List.{AllByRecursion}
use Rattle.dns_octets.specs.Room.{Room}
use Rattle.rdata_tokens.specs.Shown.{text_in_quotes}
use Rattle.rdata_tokens.specs.Spelling.{AreOctetValues}
use Rattle.rdata_tokens.specs.declared.kind.DigitsKind.TheVariants.{Hex as InHex, Base64 as InBase64}
use Rattle.rdata_fields.specs.Forms.{StringReason}
use Rattle.rdata_fields.specs.Parsing.{BeginsField, SpellsEach}
use Rattle.rdata_fields.specs.TokenParsers.{TokenParser}
use Rattle.rdata_values.specs.declared.error.ErrorKind.{ErrorKind}
use Rattle.rdata_fields.specs.declared.field.Field.TheVariants.{String as OfString}
use Rattle.dns_lexer.specs.EntryTokens.{TokenSeen}
use Rattle.rdata.specs.Digits.{digits_form}
use Rattle.rdata.specs.GatewayKeys.{IsGatewayPart, gateway_key_form}
use Rattle.rdata.specs.HostIdentities.{IsHostPart, host_identity_form}
use Rattle.rdata.specs.MaybeStrings.{maybe_string_form}
use Rattle.rdata.specs.NsapRest.{nsap_form}
use Rattle.rdata.specs.ParamsRest.{params_form}
use Rattle.rdata.specs.PrefixLists.{IsAnyItem, has_other_family, prefixes_form}
use Rattle.rdata.specs.Rests.{RestForm, AfterSomeTokens, ExceedsAfter, ParsesInParts, some_form}
use Rattle.rdata.specs.LocationRest.{is_other_version, location_form}
use Rattle.rdata.specs.TokenForms.{AreParts}
use Rattle.rdata.specs.Texts.{nothing_form, text_form}
use Rattle.rdata.specs.TypeLists.{types_form}
use Rattle.rdata.specs.declared.rest.Rest.{Rest}
use Rattle.rdata.specs.declared.rest.Rest.TheVariants.{Nothing, Strings, MaybeString, Hex, Base64, Types, SomeTypes, Text, QuotedText, Location as OfLocation, Prefixes, GatewayKey, HostIdentity, Params, Nsap}

-- after character strings, why the next token is not one
abbrev pub StringTokensReason : Option (List (List ℕ)) → List TokenSeen → List TokenSeen → ErrorKind → Type 0
StringTokensReason origin before [] e = ⊥
StringTokensReason origin before (t ∷ ts) e = ((octets : List ℕ) × SpellsEach origin OfString before octets) × StringReason t.is_quoted t.text e

-- strings after their lengths, one after another
abbrev pub strings_wire : List (List ℕ) → List ℕ
strings_wire [] = []
strings_wire (s ∷ ss) = length s ∷ (s ++ strings_wire ss)

abbrev pub AreShortStrings : List (List ℕ) → Type 0
AreShortStrings strings = AllByRecursion (λ s. AreOctetValues s × (length s ≤ 255)) strings

abbrev pub AreCharacterStrings : List ℕ → Type 0
AreCharacterStrings octets = (strings : List (List ℕ)) × AreShortStrings strings × (octets ≡ strings_wire strings)

-- the strings of at most `count` lengths
abbrev pub strings_in : ℕ → List ℕ → List (List ℕ)
strings_in zero octets = []
strings_in (suc count) [] = []
strings_in (suc count) (size ∷ octets) = take size octets ∷ strings_in count (drop size octets)

abbrev pub strings_in_octets : List ℕ → List (List ℕ)
strings_in_octets octets = strings_in (length octets) octets

-- character strings, any number of them; each prints in quotes
abbrev pub strings_form : Option (List (List ℕ)) → RestForm
strings_form origin = record {
  spells = SpellsEach origin OfString;
  exceeds = ExceedsAfter (SpellsEach origin OfString) (BeginsField origin OfString);
  reason = AfterSomeTokens (StringTokensReason origin);
  is_wire = AreCharacterStrings;
  printed = λ octets. map (λ s. record { is_quoted = true; text = text_in_quotes s }) (strings_in_octets octets);
}

-- the form of each kind, in which the origin is appended to relative names
abbrev pub rest_form : Option (List (List ℕ)) → Rest → RestForm
rest_form origin Nothing = nothing_form
rest_form origin Strings = some_form (strings_form origin)
rest_form origin MaybeString = maybe_string_form
rest_form origin Hex = some_form (digits_form InHex)
rest_form origin Base64 = some_form (digits_form InBase64)
rest_form origin Nsap = nsap_form
rest_form origin Types = types_form
rest_form origin SomeTypes = some_form types_form
rest_form origin Text = text_form false
rest_form origin QuotedText = text_form true
rest_form origin OfLocation = location_form
rest_form origin Prefixes = prefixes_form
rest_form origin GatewayKey = gateway_key_form origin
rest_form origin HostIdentity = host_identity_form origin
rest_form origin Params = params_form

-- the part of a rejected token: a gateway and a key, and a host identity, have four, and each other kind one
abbrev pub IsRestPart : Option (List (List ℕ)) → Rest → List TokenSeen → List TokenSeen → ℕ → Type 0
IsRestPart origin Nothing tokens left part = part ≡ 0
IsRestPart origin Strings tokens left part = part ≡ 0
IsRestPart origin MaybeString tokens left part = part ≡ 0
IsRestPart origin Hex tokens left part = part ≡ 0
IsRestPart origin Base64 tokens left part = part ≡ 0
IsRestPart origin Nsap tokens left part = part ≡ 0
IsRestPart origin Types tokens left part = part ≡ 0
IsRestPart origin SomeTypes tokens left part = part ≡ 0
IsRestPart origin Text tokens left part = part ≡ 0
IsRestPart origin QuotedText tokens left part = part ≡ 0
IsRestPart origin OfLocation tokens left part = part ≡ 0
IsRestPart origin Prefixes tokens left part = part ≡ 0
IsRestPart origin GatewayKey tokens left part = IsGatewayPart origin tokens left part
IsRestPart origin HostIdentity tokens left part = IsHostPart origin tokens left part
IsRestPart origin Params tokens left part = part ≡ 0

-- all tokens are parsed as the parts of a kind, which follow other fields of the RDATA; or one is rejected, and the error has its part
abbrev pub ParsesTailParts : Option (List (List ℕ)) → Room → Rest → ℕ → TokenParser (Unit {0})
ParsesTailParts origin room rest before = ParsesInParts room (rest_form origin rest) (IsRestPart origin rest) before

-- ---- octets without a text form

-- a location of a version other than 0, and an address prefix list with an item of a family other than 1 and 2
abbrev pub IsTextless : Rest → List ℕ → Type 0
IsTextless OfLocation octets = is_other_version octets ≡ true
IsTextless Prefixes octets = AreParts IsAnyItem octets × (has_other_family octets ≡ true)
IsTextless _ octets = ⊥

-- whether octets that a kind can have are without a text form
abbrev pub has_no_text : Rest → List ℕ → Bool
has_no_text OfLocation octets = is_other_version octets
has_no_text Prefixes octets = has_other_family octets
has_no_text _ octets = false

-- the octets that a kind can have, with a text form or without one
abbrev pub IsRestOf : Rest → List ℕ → Type 0
IsRestOf r octets = (rest_form None r).is_wire octets ⊎ IsTextless r octets

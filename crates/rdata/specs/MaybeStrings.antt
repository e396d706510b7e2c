-- A character string that may be omitted, the last token of an entry.
use Rattle.std.specs.Prelude.{ℕ, ◌≡◌, ◌≢◌, ◌⊎◌, true, None, List, [], ◌∷◌}
use Rattle.dns_octets.specs.Appending.{ExceedsRoom}
use Rattle.dns_octets.specs.Room.{Room}
use Rattle.dns_lexer.specs.EntryTokens.{TokenSeen}
use Rattle.rdata_tokens.specs.Forms.{IsWireString}
use Rattle.rdata_tokens.specs.Shown.{text_in_quotes}
use Rattle.rdata_fields.specs.Parsing.{BeginsField, SpellsField}
use Rattle.rdata_fields.specs.declared.field.Field.TheVariants.{String as OfString}
use Rattle.rdata_values.specs.declared.error.ErrorKind.{ErrorKind}
use Rattle.rdata_values.specs.declared.error.ErrorKind.TheVariants.{TrailingToken}
use Rattle.rdata.specs.Rests.{RestForm, PrintedToken}
use Rattle.rdata.specs.TokenForms.{FieldReason}

-- the one token spells a character string, or there are no tokens and no octets
abbrev pub SpellsMaybeString : List TokenSeen → List ℕ → Type 0
SpellsMaybeString [] octets = octets ≡ []
SpellsMaybeString (t ∷ []) octets = SpellsField None OfString t octets
SpellsMaybeString (t ∷ u ∷ ts) octets = ⊥

-- octets that the first token spells don't surely fit
abbrev pub ExceedsMaybeString : Room → List TokenSeen → List TokenSeen → List ℕ → Type 0
ExceedsMaybeString room [] left old = ⊥
ExceedsMaybeString room (t ∷ ts) left old = (left ≡ t ∷ ts) × ExceedsRoom room (BeginsField None OfString t) old

-- a second token follows a character string
abbrev pub HasSecondToken : TokenSeen → List TokenSeen → Type 0
HasSecondToken t ts = (ts ≢ []) × ((octets : List ℕ) × SpellsField None OfString t octets)

-- why a token is rejected: the first is not a character string, for this reason; or the second follows one
abbrev pub MaybeStringReason : List TokenSeen → List TokenSeen → ErrorKind → Type 0
MaybeStringReason [] left e = ⊥
MaybeStringReason (t ∷ ts) left e = ((left ≡ t ∷ ts) × FieldReason None OfString t e) ⊎ ((left ≡ ts) × (e ≡ TrailingToken) × HasSecondToken t ts)

abbrev pub IsMaybeString : List ℕ → Type 0
IsMaybeString octets = (octets ≡ []) ⊎ IsWireString octets

-- the octets after the length, in quotes; or no token
abbrev pub printed_maybe_string : List ℕ → List PrintedToken
printed_maybe_string [] = []
printed_maybe_string (o ∷ os) = record { is_quoted = true; text = text_in_quotes os } ∷ []

abbrev pub maybe_string_form : RestForm
maybe_string_form = record {
  spells = SpellsMaybeString;
  exceeds = ExceedsMaybeString;
  reason = MaybeStringReason;
  is_wire = IsMaybeString;
  printed = printed_maybe_string;
}

-- RDATA in the generic form (RFC 3597 section 5).
use Rattle.std.specs.Prelude.{ℕ, ◌≡◌, ◌≢◌, ◌⊎◌, ◌^◌, true, false, List, [], ◌∷◌, length, codes, decimal, Result, Ok, Err}
use Rattle.dns_octets.specs.Room.{Room}
use Rattle.dns_codec.specs.Base.{base16}
use Rattle.rdata_tokens.specs.declared.kind.DigitsKind.TheVariants.{Hex}
use Rattle.rdata_fields.specs.Source.{next_place}
use Rattle.rdata_fields.specs.Words.{SpellsBelow, NumberReason}
use Rattle.rdata_fields.specs.RecordErrors.{IsErrorAt}
use Rattle.rdata_fields.specs.declared.record_error.RecordError.{RecordError}
use Rattle.rdata_values.specs.declared.error.ErrorKind.{ErrorKind}
use Rattle.rdata_values.specs.declared.error.ErrorKind.TheVariants.{EndOfEntry, Quoted, WrongLength}
use Rattle.rdata_tokens.specs.Spelling.{AreOctetValues}
use Rattle.dns_lexer.specs.EntryTokens.{TokenSeen}
use Rattle.rdata.specs.Digits.{SpellsJoined, digits_form, printed_digits}
use Rattle.rdata.specs.Rests.{RestForm}

-- a backslash and a number sign, without quotes
abbrev pub IsGenericMark : TokenSeen → Type 0
IsGenericMark t = (t.is_quoted ≡ false) × (t.text ≡ codes "\\#")

abbrev pub BeginsGeneric : List TokenSeen → Type 0
BeginsGeneric [] = ⊥
BeginsGeneric (t ∷ ts) = IsGenericMark t

-- a word that is a number of 16 bits
abbrev pub IsCount : TokenSeen → ℕ → Type 0
IsCount t count = (t.is_quoted ≡ false) × SpellsBelow (2 ^ 16) t.text count

-- why a token is not such a word
abbrev pub IsNoCount : TokenSeen → ErrorKind → Type 0
IsNoCount t e = ((e ≡ Quoted) × (t.is_quoted ≡ true)) ⊎ ((t.is_quoted ≡ false) × NumberReason (2 ^ 16) t.text e × ((n : ℕ) → SpellsBelow (2 ^ 16) t.text n → ⊥))

abbrev pub WhyNoCount : List TokenSeen → ErrorKind → Type 0
WhyNoCount [] e = e ≡ EndOfEntry
WhyNoCount (t ∷ ts) e = IsNoCount t e

-- the next token is parsed as a number; or it is rejected, and no token is read
abbrev pub ParsesCount : ℕ → List TokenSeen → Result ℕ RecordError → List TokenSeen → Type 0
ParsesCount end tokens (Ok count) left = (t : TokenSeen) × (tokens ≡ t ∷ left) × IsCount t count
ParsesCount end tokens (Err r) left = (left ≡ tokens) × IsErrorAt (next_place tokens end) r × WhyNoCount tokens r.kind

-- the mark, the number of octets, and the octets in hexadecimal
abbrev pub SpellsGeneric : List TokenSeen → List ℕ → Type 0
SpellsGeneric [] octets = ⊥
SpellsGeneric (mark ∷ []) octets = ⊥
SpellsGeneric (mark ∷ count ∷ digits) octets = IsGenericMark mark × IsCount count (length octets) × SpellsJoined base16 digits octets

-- the number of octets in digits is not the number of the word, and the error has both
abbrev pub IsOtherCount : TokenSeen → List TokenSeen → ErrorKind → Type 0
IsOtherCount count digits e = (wanted : ℕ) × (octets : List ℕ) × IsCount count wanted × SpellsJoined base16 digits octets × (length octets ≢ wanted) × (e ≡ WrongLength (length octets) wanted)

-- after the mark and a number, octets that a beginning of the digits spells don't surely fit
abbrev pub ExceedsGeneric : Room → List TokenSeen → List TokenSeen → List ℕ → Type 0
ExceedsGeneric room [] left old = ⊥
ExceedsGeneric room (mark ∷ []) left old = ⊥
ExceedsGeneric room (mark ∷ count ∷ digits) left old = IsGenericMark mark × ((wanted : ℕ) × IsCount count wanted) × (digits_form Hex).exceeds room digits left old

-- Why tokens after the mark are rejected: the first is not a number; or it is one, and the others are
-- not octets in digits, or have another number of octets.
abbrev pub GenericReason : List TokenSeen → List TokenSeen → ErrorKind → Type 0
GenericReason [] left e = ⊥
GenericReason (mark ∷ tokens) left e =
    ((left ≡ tokens) × WhyNoCount tokens e)
    ⊎ ((count : TokenSeen) × (digits : List TokenSeen) × (tokens ≡ count ∷ digits)
    × ((((wanted : ℕ) × IsCount count wanted) × (digits_form Hex).reason digits left e) ⊎ (IsOtherCount count digits e × (left ≡ []))))

-- the mark and the number print as words, and the octets as one
abbrev pub generic_form : RestForm
generic_form = record {
  spells = SpellsGeneric;
  exceeds = ExceedsGeneric;
  reason = GenericReason;
  is_wire = AreOctetValues;
  printed = λ octets. record { is_quoted = false; text = codes "\\#" } ∷ record { is_quoted = false; text = decimal (length octets) } ∷ printed_digits base16 octets;
}

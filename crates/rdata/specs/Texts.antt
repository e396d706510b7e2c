-- Text of any length, as the one unread token.
use Rattle.std.specs.Prelude.{ℕ, ◌≡◌, ◌≢◌, ◌⊎◌, Bool, true, false, List, [], ◌∷◌, Result, Ok, Err}
use Rattle.dns_octets.specs.Room.{Room}
use Rattle.dns_octets.specs.Appending.{ExceedsRoom}
use Rattle.rdata_fields.specs.RecordErrors.{error_at}
use Rattle.rdata_fields.specs.declared.record_error.RecordError.{RecordError}
use Rattle.rdata_values.specs.declared.error.ErrorKind.{ErrorKind}
use Rattle.rdata_values.specs.declared.error.ErrorKind.TheVariants.{EndOfEntry, TrailingToken, NotQuoted, BadEscape}
use Rattle.rdata_tokens.specs.Shown.{text_in_quotes}
use Rattle.rdata_tokens.specs.Spelling.{AreOctetValues, BeginsWithOctets, SpellsOctetList, SpellsToBadEscape}
use Rattle.dns_lexer.specs.EntryTokens.{TokenSeen}
use Rattle.rdata.specs.Rests.{RestForm, AfterSomeTokens}

-- there are no unread tokens, or the next is rejected
abbrev pub ExpectsNoToken : ℕ → List TokenSeen → Result (Unit {0}) RecordError → List TokenSeen → Type 0
ExpectsNoToken end tokens (Ok _) left = (tokens ≡ []) × (left ≡ [])
ExpectsNoToken end [] (Err r) left = ⊥
ExpectsNoToken end (t ∷ ts) (Err r) left = (left ≡ t ∷ ts) × (r ≡ error_at t.at TrailingToken)

-- no tokens and no octets
abbrev pub nothing_form : RestForm
nothing_form = record {
  spells = λ tokens octets. (tokens ≡ []) × (octets ≡ []);
  exceeds = λ room tokens left old. ⊥;
  reason = λ tokens left e. (left ≡ tokens) × (tokens ≢ []) × (e ≡ TrailingToken);
  is_wire = λ octets. octets ≡ [];
  printed = λ octets. [];
}

-- a token is quoted if quotes are wanted
abbrev pub HasQuotes : Bool → TokenSeen → Type 0
HasQuotes wants_quotes t = wants_quotes ≡ true → t.is_quoted ≡ true

-- such a token spells the octets
abbrev pub SpellsText : Bool → TokenSeen → List ℕ → Type 0
SpellsText wants_quotes t octets = HasQuotes wants_quotes t × SpellsOctetList t.text octets

-- the one token spells the octets
abbrev pub AreText : Bool → List TokenSeen → List ℕ → Type 0
AreText wants_quotes [] octets = ⊥
AreText wants_quotes (t ∷ []) octets = SpellsText wants_quotes t octets
AreText wants_quotes (t ∷ u ∷ ts) octets = ⊥

-- octets that a beginning of the first token spells don't surely fit
abbrev pub ExceedsText : Bool → Room → List TokenSeen → List TokenSeen → List ℕ → Type 0
ExceedsText wants_quotes room [] left old = ⊥
ExceedsText wants_quotes room (t ∷ ts) left old = (left ≡ t ∷ ts) × HasQuotes wants_quotes t × ExceedsRoom room (BeginsWithOctets t.text) old

-- Why a text is rejected: there is no token; or it is a word, and quotes are wanted; or it has them if
-- they are wanted, and has a wrong escape; or it is a text, and another token follows it.
abbrev pub TextReason : Bool → List TokenSeen → List TokenSeen → ErrorKind → Type 0
TextReason wants_quotes [] [] e = e ≡ EndOfEntry
TextReason wants_quotes [] (t ∷ ts) e =
    ((e ≡ NotQuoted) × (wants_quotes ≡ true) × (t.is_quoted ≡ false)) ⊎ ((e ≡ BadEscape) × HasQuotes wants_quotes t × SpellsToBadEscape t.text)
TextReason wants_quotes (t ∷ []) (u ∷ ts) e = (e ≡ TrailingToken) × ((octets : List ℕ) × SpellsText wants_quotes t octets)
TextReason wants_quotes before left e = ⊥

-- text without a length; it prints in quotes
abbrev pub text_form : Bool → RestForm
text_form wants_quotes = record {
  spells = AreText wants_quotes;
  exceeds = ExceedsText wants_quotes;
  reason = AfterSomeTokens (TextReason wants_quotes);
  is_wire = AreOctetValues;
  printed = λ octets. record { is_quoted = true; text = text_in_quotes octets } ∷ [];
}

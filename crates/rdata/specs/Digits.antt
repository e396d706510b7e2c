-- Octets in digits to the end of an entry.
use Rattle.std.specs.Prelude.{ℕ, ◌≡◌, ◌⊎◌, true, false, List, [], ◌∷◌, ◌++◌}
use Rattle.std.specs.List.{AllByRecursion}
use Rattle.dns_octets.specs.Room.{Room}
use Rattle.dns_octets.specs.Appending.{ExceedsRoom}
use Rattle.dns_codec.specs.Base.{Base, encoded}
use Rattle.rdata_tokens.specs.Reading.{PaddedBefore}
use Rattle.rdata_tokens.specs.Spelled.{SpellsDigits, BeginsWithDigits, base_of, illegal, unfinished}
use Rattle.rdata_tokens.specs.Tokens.{DigitsContinue}
use Rattle.rdata_values.specs.declared.error.ErrorKind.{ErrorKind}
use Rattle.rdata_values.specs.declared.error.ErrorKind.TheVariants.{Quoted, TrailingBase64}
use Rattle.rdata_tokens.specs.declared.kind.DigitsKind.{DigitsKind}
use Rattle.rdata_tokens.specs.Spelling.{AreOctetValues}
use Rattle.dns_lexer.specs.EntryTokens.{TokenSeen}
use Rattle.rdata.specs.Rests.{RestForm, PrintedToken, AfterSomeTokens}

-- the texts of words, one after the other
abbrev pub joined_words : List TokenSeen → List ℕ
joined_words [] = []
joined_words (t ∷ ts) = t.text ++ joined_words ts

abbrev pub AreUnquoted : List TokenSeen → Type 0
AreUnquoted tokens = AllByRecursion (λ t. t.is_quoted ≡ false) tokens

-- words spell octets in digits, which are cut anywhere
abbrev pub SpellsJoined : Base → List TokenSeen → List ℕ → Type 0
SpellsJoined b tokens octets = AreUnquoted tokens × SpellsDigits b (joined_words tokens) octets

-- the octets that digits of words begin with, up to the first unread word and with it, don't surely fit
abbrev pub ExceedsDigits : DigitsKind → Room → List TokenSeen → List TokenSeen → List ℕ → Type 0
ExceedsDigits kind room tokens [] old = ⊥
ExceedsDigits kind room tokens (t ∷ ts) old =
    (before : List TokenSeen) × (tokens ≡ before ++ t ∷ ts) × AreUnquoted (before ++ t ∷ []) × ExceedsRoom room (BeginsWithDigits (base_of kind) (joined_words (before ++ t ∷ []))) old

-- why no digits that begin so spell octets: something follows a padded group, or not
abbrev pub IsDigitsFault : DigitsKind → List ℕ → ErrorKind → Type 0
IsDigitsFault kind text e =
    (((e ≡ illegal kind) × (PaddedBefore (base_of kind) text → ⊥)) ⊎ ((e ≡ TrailingBase64) × PaddedBefore (base_of kind) text)) × (DigitsContinue kind text → ⊥)

-- Why digits are rejected after words with which digits of octets begin: they end within a group; or
-- the next token is a quoted string; or the digits up to its end are wrong.
abbrev pub JoinedReason : DigitsKind → List TokenSeen → List TokenSeen → ErrorKind → Type 0
JoinedReason kind before [] e = (e ≡ unfinished kind) × ((octets : List ℕ) → SpellsDigits (base_of kind) (joined_words before) octets → ⊥)
JoinedReason kind before (t ∷ ts) e = ((e ≡ Quoted) × (t.is_quoted ≡ true)) ⊎ ((t.is_quoted ≡ false) × IsDigitsFault kind (joined_words (before ++ t ∷ [])) e)

-- octets print as one word, or as no word if there are none
abbrev pub printed_digits : Base → List ℕ → List PrintedToken
printed_digits b [] = []
printed_digits b (o ∷ os) = record { is_quoted = false; text = encoded b (o ∷ os) } ∷ []

-- octets in hexadecimal or base 64, any number of them
abbrev pub digits_form : DigitsKind → RestForm
digits_form kind = record {
  spells = SpellsJoined (base_of kind);
  exceeds = ExceedsDigits kind;
  reason = AfterSomeTokens (λ before left e. AreUnquoted before × DigitsContinue kind (joined_words before) × JoinedReason kind before left e);
  is_wire = AreOctetValues;
  printed = printed_digits (base_of kind);
}

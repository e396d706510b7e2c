-- Digits of one token that is rejected.
use Rattle.std.specs.Prelude.{ℕ, ◌≡◌, ◌≢◌, ◌⊎◌, List, ◌++◌}
use Rattle.dns_octets.specs.Room.{Room}
use Rattle.dns_octets.specs.Appending.{ExceedsRoom}
use Rattle.rdata_tokens.specs.Spelled.{SpellsDigits, BeginsWithDigits, base_of, illegal, unfinished}
use Rattle.rdata_tokens.specs.Reading.{PaddedBefore}
use Rattle.rdata_tokens.specs.declared.kind.DigitsKind.{DigitsKind}
use Rattle.rdata_values.specs.declared.error.ErrorKind.{ErrorKind}
use Rattle.rdata_values.specs.declared.error.ErrorKind.TheVariants.{TrailingBase64, ShortBuf}

-- a text continues to one that spells octets
abbrev pub DigitsContinue : DigitsKind → List ℕ → Type 0
DigitsContinue kind text = (rest : List ℕ) × (octets : List ℕ) × SpellsDigits (base_of kind) (text ++ rest) octets

-- a token is rejected: the octets of a beginning of it don't surely fit, or it has none, and then its error shows whether a longer one could have some
pub record RefusesToken (kind : DigitsKind) (room : Room) (text old : List ℕ) (error : ErrorKind) : Type 0 where
  pub why : (error ≡ ShortBuf) ⊎ (((error ≡ unfinished kind) × DigitsContinue kind text)
      ⊎ ((((error ≡ illegal kind) × (PaddedBefore (base_of kind) text → ⊥)) ⊎ ((error ≡ TrailingBase64) × PaddedBefore (base_of kind) text)) × (DigitsContinue kind text → ⊥)))
  pub exceeds : error ≡ ShortBuf → ExceedsRoom room (BeginsWithDigits (base_of kind) text) old
  pub none : error ≢ ShortBuf → (octets : List ℕ) → SpellsDigits (base_of kind) text octets → ⊥

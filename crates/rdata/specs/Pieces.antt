-- One word of digits after others.
use Rattle.std.specs.Prelude.{ℕ, ◌≡◌, ◌⊎◌, true, false, List, [], ◌∷◌, ◌++◌, Ok, Err}
use Rattle.dns_octets.specs.Room.{Room}
use Rattle.dns_octets.specs.Appending.{Extends}
use Rattle.rdata_tokens.specs.Reading.{DigitsState, AcceptsPiece, RefusesPiece}
use Rattle.rdata_fields.specs.RecordErrors.{IsErrorAt}
use Rattle.rdata_values.specs.declared.error.ErrorKind.{ErrorKind}
use Rattle.rdata_values.specs.declared.error.ErrorKind.TheVariants.{EndOfEntry, Quoted}
use Rattle.rdata_fields.specs.Source.{next_place}
use Rattle.rdata_fields.specs.TokenParsers.{TokenParser}
use Rattle.dns_lexer.specs.EntryTokens.{TokenSeen}

-- the next token is pushed as a piece, and the target gained the octets of its groups
pub record PushesDigits (s : DigitsState) (t : TokenSeen) (old : List ℕ) (pushed : DigitsState) (new : List ℕ) : Type 0 where
  pub plain : t.is_quoted ≡ false
  pub gained : List ℕ
  pub piece : AcceptsPiece s t.text gained pushed
  pub octets : new ≡ old ++ gained

-- why the next token was not pushed
abbrev pub RefusesPush : Room → DigitsState → List TokenSeen → List ℕ → ErrorKind → Type 0
RefusesPush room s [] old e = e ≡ EndOfEntry
RefusesPush room s (t ∷ ts) old e = ((e ≡ Quoted) × (t.is_quoted ≡ true)) ⊎ ((t.is_quoted ≡ false) × RefusesPiece room s t.text old e)

-- the next token is pushed and read; or it is rejected, and no token is read
abbrev pub PushesNext : Room → DigitsState → DigitsState → TokenParser (Unit {0})
PushesNext room s pushed end tokens old (Ok _) left new = (t : TokenSeen) × (tokens ≡ t ∷ left) × PushesDigits s t old pushed new
PushesNext room s pushed end tokens old (Err r) left new = (left ≡ tokens) × IsErrorAt (next_place tokens end) r × RefusesPush room s tokens old r.kind × Extends old new

-- A token whose octets are not at its place: the tokens after it spell all octets, and these depend on what it spells.
use Rattle.std.specs.Prelude.{ℕ, ◌≡◌, List, [], ◌∷◌, Result, Ok, Err}
use Rattle.dns_octets.specs.Room.{Room}
use Rattle.dns_lexer.specs.EntryTokens.{TokenSeen}
use Rattle.rdata_fields.specs.RecordErrors.{IsErrorAt}
use Rattle.rdata_fields.specs.Source.{next_place}
use Rattle.rdata_fields.specs.declared.record_error.RecordError.{RecordError}
use Rattle.rdata_values.specs.declared.error.ErrorKind.{ErrorKind}
use Rattle.rdata_values.specs.declared.error.ErrorKind.TheVariants.{EndOfEntry}
use Rattle.rdata.specs.Rests.{RestForm}
use Rattle.rdata.specs.TokenForms.{TokenForm, ThenReason}

-- the first token spells what the tokens after it depend on, and these spell the octets
pub record SpellsHeld (f : TokenForm) (later : List ℕ → RestForm) (tokens : List TokenSeen) (octets : List ℕ) : Type 0 where
  pub first : TokenSeen
  pub last : List TokenSeen
  pub own : List ℕ
  pub tokens_are : tokens ≡ first ∷ last
  pub spelled : f.spells first own
  pub rest : (later own).spells last octets

-- what follows the first token exceeds the room
abbrev pub ExceedsHeld : TokenForm → (List ℕ → RestForm) → Room → List TokenSeen → List TokenSeen → List ℕ → Type 0
ExceedsHeld f later room [] left old = ⊥
ExceedsHeld f later room (t ∷ ts) left old = (own : List ℕ) × f.spells t own × (later own).exceeds room ts left old

-- octets of what follows, for some octets of the first token
abbrev pub IsHeldTail : TokenForm → (List ℕ → RestForm) → List ℕ → Type 0
IsHeldTail f later octets = (own : List ℕ) × f.is_wire own × (later own).is_wire octets

-- the form of both; `own` is what the first token spells, as the octets have it
abbrev pub held_form : (List ℕ → List ℕ) → TokenForm → (List ℕ → RestForm) → RestForm
held_form own f later = record {
  spells = SpellsHeld f later;
  exceeds = ExceedsHeld f later;
  reason = ThenReason f later;
  is_wire = IsHeldTail f later;
  printed = λ octets. f.printed (own octets) ∷ (later (own octets)).printed octets;
}

-- why the next token was not parsed: there is none; or it spells nothing, for this reason
abbrev pub RefusesHeld : TokenForm → List TokenSeen → ErrorKind → Type 0
RefusesHeld f [] e = e ≡ EndOfEntry
RefusesHeld f (t ∷ ts) e = f.reason t e × ((octets : List ℕ) → f.spells t octets → ⊥)

-- the next token is parsed, and what it spells is returned; or it is rejected, and no token is read
abbrev pub ParsesHeld : {V : Type 0} → TokenForm → (V → List ℕ) → ℕ → List TokenSeen → Result V RecordError → List TokenSeen → Type 0
ParsesHeld f octets_of end tokens (Ok v) left = (t : TokenSeen) × (tokens ≡ t ∷ left) × f.spells t (octets_of v)
ParsesHeld f octets_of end tokens (Err r) left = (left ≡ tokens) × IsErrorAt (next_place tokens end) r × RefusesHeld f tokens r.kind

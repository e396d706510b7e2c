-- The form of one token, and a tail that is such tokens.
use Rattle.std.specs.Prelude.{ℕ, zero, suc, ◌≡◌, ◌⊎◌, Option, List, [], ◌∷◌, ◌++◌, take, drop, length, Ok, Err}
use Rattle.std.specs.List.{AllByRecursion, concat}
use Rattle.dns_octets.specs.Room.{Room}
use Rattle.dns_octets.specs.Appending.{Extends, Gains, ExceedsRoom}
use Rattle.rdata_fields.specs.Fields.{field_form}
use Rattle.rdata_fields.specs.Source.{next_place}
use Rattle.rdata_fields.specs.Parsing.{BeginsField, SpellsField}
use Rattle.rdata_fields.specs.TokenParsers.{TokenParser}
use Rattle.rdata_fields.specs.RecordErrors.{IsErrorAt}
use Rattle.rdata_values.specs.declared.error.ErrorKind.{ErrorKind}
use Rattle.rdata_values.specs.declared.error.ErrorKind.TheVariants.{ShortBuf, EndOfEntry}
use Rattle.rdata_fields.specs.declared.field.Field.{Field}
use Rattle.dns_lexer.specs.EntryTokens.{TokenSeen}
use Rattle.rdata.specs.Rests.{RestForm, PrintedToken, AfterSomeTokens, ExceedsAfter}

pub record TokenForm : Type 1 where
  -- a token spells these octets
  pub spells : TokenSeen → List ℕ → Type 0
  -- octets that a beginning of it spells: all of them, if it is read whole before an octet is appended
  pub begins : TokenSeen → List ℕ → Type 0
  -- why a token that spells none is rejected
  pub reason : TokenSeen → ErrorKind → Type 0
  -- the octets that it can have
  pub is_wire : List ℕ → Type 0
  -- the length of the form that octets begin with
  pub width : List ℕ → ℕ
  pub printed : List ℕ → PrintedToken

-- why a token is not a field
abbrev pub FieldReason : Option (List (List ℕ)) → Field → TokenSeen → ErrorKind → Type 0
FieldReason origin f t e = (field_form origin f).reason t.is_quoted t.text e

-- why the next token was not parsed: there is none; or octets that a beginning of it spells don't surely fit; or it spells none, for this reason
abbrev pub RefusesTokenAs : Room → (TokenSeen → List ℕ → Type 0) → (TokenSeen → List ℕ → Type 0) → (TokenSeen → ErrorKind → Type 0) → List TokenSeen → List ℕ → ErrorKind → Type 0
RefusesTokenAs room Begins Spells Reason [] old e = e ≡ EndOfEntry
RefusesTokenAs room Begins Spells Reason (t ∷ ts) old e = ((e ≡ ShortBuf) × ExceedsRoom room (Begins t) old) ⊎ (Reason t e × ((octets : List ℕ) → Spells t octets → ⊥))

-- the next token is parsed, and the target gained the octets that it spells; or it is rejected, and no token is read
abbrev pub ParsesTokenAs : Room → (TokenSeen → List ℕ → Type 0) → (TokenSeen → List ℕ → Type 0) → (TokenSeen → ErrorKind → Type 0) → TokenParser (Unit {0})
ParsesTokenAs room Begins Spells Reason end tokens old (Ok _) left new = (t : TokenSeen) × (tokens ≡ t ∷ left) × Gains (Spells t) old new
ParsesTokenAs room Begins Spells Reason end tokens old (Err r) left new = (left ≡ tokens) × IsErrorAt (next_place tokens end) r × RefusesTokenAs room Begins Spells Reason tokens old r.kind × Extends old new

-- the next token is parsed as a field
abbrev pub ParsesOneField : Option (List (List ℕ)) → Room → Field → TokenParser (Unit {0})
ParsesOneField origin room f = ParsesTokenAs room (BeginsField origin f) (SpellsField origin f) (FieldReason origin f)

-- the next token is parsed as a token of a form
abbrev pub ParsesByForm : Room → TokenForm → TokenParser (Unit {0})
ParsesByForm room f = ParsesTokenAs room f.begins f.spells f.reason

-- ---- any number of tokens of one form

-- each token spells octets, and these follow one another
abbrev pub SpellOctets : TokenForm → List TokenSeen → List ℕ → Type 0
SpellOctets f [] octets = octets ≡ []
SpellOctets f (t ∷ ts) octets = (front : List ℕ) × (back : List ℕ) × (octets ≡ front ++ back) × f.spells t front × SpellOctets f ts back

-- tokens spell octets, and the next after them spells none, for this reason
abbrev pub ReasonAfter : TokenForm → List TokenSeen → List TokenSeen → ErrorKind → Type 0
ReasonAfter f before [] e = ⊥
ReasonAfter f before (t ∷ ts) e = ((octets : List ℕ) × SpellOctets f before octets) × f.reason t e × ((octets : List ℕ) → f.spells t octets → ⊥)

-- octets of a form, one after another to the end
abbrev pub AreParts : (List ℕ → Type 0) → List ℕ → Type 0
AreParts Is octets = (parts : List (List ℕ)) × AllByRecursion Is parts × (octets ≡ concat parts)

-- at most `count` tokens, of the octets from the first on
abbrev pub printed_each : TokenForm → ℕ → List ℕ → List PrintedToken
printed_each f zero octets = []
printed_each f (suc count) [] = []
printed_each f (suc count) (o ∷ os) = let octets = o ∷ os in f.printed (take (f.width octets) octets) ∷ printed_each f count (drop (f.width octets) octets)

abbrev pub each_form : TokenForm → RestForm
each_form f = record {
  spells = SpellOctets f;
  exceeds = ExceedsAfter (SpellOctets f) f.begins;
  reason = AfterSomeTokens (ReasonAfter f);
  is_wire = AreParts f.is_wire;
  printed = λ octets. printed_each f (length octets) octets;
}

-- ---- one token, and after it what its octets require

pub record SpellsThen (f : TokenForm) (behind : List ℕ → RestForm) (tokens : List TokenSeen) (octets : List ℕ) : Type 0 where
  pub first : TokenSeen
  pub last : List TokenSeen
  pub front : List ℕ
  pub back : List ℕ
  pub tokens_are : tokens ≡ first ∷ last
  pub octets_are : octets ≡ front ++ back
  pub spelled : f.spells first front
  pub rest : (behind front).spells last back

-- octets that a beginning of the first token spells don't surely fit; or it spells octets, and what follows it exceeds the room after them
abbrev pub ExceedsThen : TokenForm → (List ℕ → RestForm) → Room → List TokenSeen → List TokenSeen → List ℕ → Type 0
ExceedsThen f behind room [] left old = ⊥
ExceedsThen f behind room (t ∷ ts) left old = ((left ≡ t ∷ ts) × ExceedsRoom room (f.begins t) old) ⊎ ((front : List ℕ) × f.spells t front × (behind front).exceeds room ts left (old ++ front))

-- there is no token; or the first spells no octets, for this reason; or it spells octets, and what follows it is rejected
abbrev pub ThenReason : TokenForm → (List ℕ → RestForm) → List TokenSeen → List TokenSeen → ErrorKind → Type 0
ThenReason f behind [] left e = (left ≡ []) × (e ≡ EndOfEntry)
ThenReason f behind (t ∷ ts) left e =
    ((left ≡ t ∷ ts) × f.reason t e × ((octets : List ℕ) → f.spells t octets → ⊥)) ⊎ ((front : List ℕ) × f.spells t front × (behind front).reason ts left e)

pub record IsThen (f : TokenForm) (behind : List ℕ → RestForm) (octets : List ℕ) : Type 0 where
  pub front : List ℕ
  pub back : List ℕ
  pub octets_are : octets ≡ front ++ back
  pub is_wire : f.is_wire front
  pub rest : (behind front).is_wire back

abbrev pub then_form : TokenForm → (List ℕ → RestForm) → RestForm
then_form f behind = record {
  spells = SpellsThen f behind;
  exceeds = ExceedsThen f behind;
  reason = ThenReason f behind;
  is_wire = IsThen f behind;
  printed = λ octets. let front = take (f.width octets) octets in f.printed front ∷ (behind front).printed (drop (f.width octets) octets);
}

-- the part of such tokens that is rejected: the first, and no token is read, or after it a part of the others
abbrev pub PartAfter : TokenForm → (List ℕ → List TokenSeen → List TokenSeen → ℕ → Type 0) → List TokenSeen → List TokenSeen → ℕ → Type 0
PartAfter f Behind tokens left zero = left ≡ tokens
PartAfter f Behind [] left (suc part) = ⊥
PartAfter f Behind (t ∷ ts) left (suc part) = (front : List ℕ) × f.spells t front × Behind front ts left part

-- Tails, which go to the end of an entry: the tokens that spell one, its octets, and the tokens that it prints as.
use Rattle.std.specs.Prelude.{ℕ, ◌≡◌, ◌≢◌, ◌⊎◌, ◌+◌, length, ⊤, Bool, false, List, [], ◌∷◌, ◌++◌, Result, Ok, Err}
use Rattle.dns_octets.specs.Room.{Room}
use Rattle.dns_octets.specs.Appending.{Extends, Gains, ExceedsRoom}
use Rattle.dns_lexer.specs.EntryTokens.{TokenSeen}
use Rattle.rdata_fields.specs.Source.{next_place}
use Rattle.rdata_fields.specs.TokenParsers.{TokenParser}
use Rattle.rdata_fields.specs.RecordErrors.{error_at, error_in_field, IsErrorAt}
use Rattle.rdata_fields.specs.declared.record_error.RecordError.{RecordError}
use Rattle.rdata_values.specs.declared.error.ErrorKind.{ErrorKind}
use Rattle.rdata_values.specs.declared.error.ErrorKind.TheVariants.{ShortBuf, EndOfEntry}

-- whether a token prints as a quoted string, and its text
pub record PrintedToken : Type 0 where
  pub is_quoted : Bool
  pub text : List ℕ

-- tokens are as they print, and none is adjacent
abbrev pub ArePrinted : List PrintedToken → List TokenSeen → Type 0
ArePrinted [] [] = ⊤
ArePrinted [] (t ∷ ts) = ⊥
ArePrinted (p ∷ ps) [] = ⊥
ArePrinted (p ∷ ps) (t ∷ ts) = (t.is_quoted ≡ p.is_quoted) × (t.text ≡ p.text) × (t.is_adjacent ≡ false) × ArePrinted ps ts

pub record RestForm : Type 1 where
  -- the unread tokens of an entry spell these octets
  pub spells : List TokenSeen → List ℕ → Type 0
  -- octets that a beginning of the tokens spells don't surely fit after old ones; and these are the tokens that are then unread
  pub exceeds : Room → List TokenSeen → List TokenSeen → List ℕ → Type 0
  -- why the first unread token is rejected, or why the entry's end is
  pub reason : List TokenSeen → List TokenSeen → ErrorKind → Type 0
  -- the octets that it can have
  pub is_wire : List ℕ → Type 0
  pub printed : List ℕ → List PrintedToken

-- some of the tokens spell octets, and those that a beginning of the next spells don't surely fit after them
abbrev pub ExceedsAfter : (List TokenSeen → List ℕ → Type 0) → (TokenSeen → List ℕ → Type 0) → Room → List TokenSeen → List TokenSeen → List ℕ → Type 0
ExceedsAfter Spell Begins room tokens [] old = ⊥
ExceedsAfter Spell Begins room tokens (t ∷ ts) old = (before : List TokenSeen) × (octets : List ℕ) × (tokens ≡ before ++ t ∷ ts) × Spell before octets × ExceedsRoom room (Begins t) (old ++ octets)

-- all tokens are read before an octet is appended, and the octets that they spell don't surely fit
abbrev pub ExceedsWhole : (List TokenSeen → List ℕ → Type 0) → Room → List TokenSeen → List TokenSeen → List ℕ → Type 0
ExceedsWhole Spell room tokens left old = (left ≡ []) × ExceedsRoom room (Spell tokens) old

-- some of the tokens are read, and the next is rejected for this reason
abbrev pub AfterSomeTokens : (List TokenSeen → List TokenSeen → ErrorKind → Type 0) → List TokenSeen → List TokenSeen → ErrorKind → Type 0
AfterSomeTokens Why tokens left e = (before : List TokenSeen) × (tokens ≡ before ++ left) × Why before left e

-- why tokens were not parsed: octets that a beginning of them spells don't surely fit; or they spell none, for this reason
abbrev pub RefusesAs : Room → RestForm → List TokenSeen → List ℕ → List TokenSeen → ErrorKind → Type 0
RefusesAs room f tokens old left e =
    ((e ≡ ShortBuf) × f.exceeds room tokens left old) ⊎ (f.reason tokens left e × ((octets : List ℕ) → f.spells tokens octets → ⊥))

-- some tokens are read, and the next is rejected, or the entry's end is
pub record RefusesRest (room : Room) (f : RestForm) (end : ℕ) (tokens : List TokenSeen) (old : List ℕ) (r : RecordError) (left : List TokenSeen) (new : List ℕ) : Type 0 where
  pub at : IsErrorAt (next_place left end) r
  pub why : RefusesAs room f tokens old left r.kind
  pub extends : Extends old new

-- all tokens are parsed, and the target gained the octets that they spell; or one is rejected
abbrev pub ParsesTail : Room → RestForm → TokenParser (Unit {0})
ParsesTail room f end tokens old (Ok _) left new = (left ≡ []) × Gains (f.spells tokens) old new
ParsesTail room f end tokens old (Err r) left new = RefusesRest room f end tokens old r left new

-- tokens are parsed as parts, each a field of the RDATA after `before` others; an error has the rejected field
abbrev pub ParsesInParts : Room → RestForm → (List TokenSeen → List TokenSeen → ℕ → Type 0) → ℕ → TokenParser (Unit {0})
ParsesInParts room f IsPart before end tokens old (Ok x) left new = ParsesTail room f end tokens old (Ok x) left new
ParsesInParts room f IsPart before end tokens old (Err r) left new =
    (e : RecordError) × (part : ℕ) × (r ≡ error_in_field (before + part) e) × RefusesRest room f end tokens old e left new × IsPart tokens left part

-- the result; an error gets the field with this index
abbrev pub in_field_after : ℕ → Result (Unit {0}) RecordError → Result (Unit {0}) RecordError
in_field_after before (Ok x) = Ok x
in_field_after before (Err e) = Err (error_in_field before e)

-- the form with one or more octets
abbrev pub some_form : RestForm → RestForm
some_form f = record {
  spells = λ tokens octets. f.spells tokens octets × (octets ≢ []);
  exceeds = f.exceeds;
  reason = λ tokens left e. f.reason tokens left e ⊎ ((e ≡ EndOfEntry) × (left ≡ []) × f.spells tokens []);
  is_wire = λ octets. f.is_wire octets × (octets ≢ []);
  printed = f.printed;
}

-- there are more than `count` octets; or there are only these, and the offset is that of what comes next
abbrev pub WantsMore : ℕ → ℕ → List TokenSeen → List ℕ → Result (Unit {0}) RecordError → Type 0
WantsMore count end left octets (Ok _) = length octets ≢ count
WantsMore count end left octets (Err r) = (length octets ≡ count) × (r ≡ error_at (next_place left end) EndOfEntry)

-- Fields that are parsed from the tokens of an entry, one token each.
use Rattle.std.specs.Prelude.{ℕ, Option, suc, length, replicate, ◌≡◌, ◌-◌, List, [], ◌∷◌, ◌++◌, take, drop, slice_get, Some, Ok, Err}
use Rattle.dns_octets.specs.Room.{Room}
use Rattle.dns_octets.specs.Appending.{Extends, Gains}
use Rattle.dns_lexer.specs.EntryTokens.{TokenSeen}
use Rattle.rdata_values.specs.declared.error.ErrorKind.{ErrorKind}
use Rattle.rdata_values.specs.declared.error.ErrorKind.TheVariants.{EndOfEntry}
use Rattle.rdata_fields.specs.declared.field.Field.{Field}
use Rattle.rdata_fields.specs.Fields.{field_form}
use Rattle.rdata_fields.specs.Forms.{RefusesField}
use Rattle.rdata_fields.specs.TokenParsers.{TokenParser}
use Rattle.rdata_fields.specs.RecordErrors.{IsErrorAt, IsErrorInField}
use Rattle.rdata_fields.specs.Source.{next_place}

-- the token spells the field
abbrev pub SpellsField : Option (List (List ℕ)) → Field → TokenSeen → List ℕ → Type 0
SpellsField origin f t = (field_form origin f).spells t.is_quoted t.text

-- a beginning of the token spells octets of the field
abbrev pub BeginsField : Option (List (List ℕ)) → Field → TokenSeen → List ℕ → Type 0
BeginsField origin f t = (field_form origin f).begins t.is_quoted t.text

-- the tokens spell the fields, one each, and the octets are theirs, one after another
abbrev pub SpellsFields : Option (List (List ℕ)) → List Field → List TokenSeen → List ℕ → Type 0
SpellsFields origin [] [] octets = octets ≡ []
SpellsFields origin [] (t ∷ ts) octets = ⊥
SpellsFields origin (f ∷ fs) [] octets = ⊥
SpellsFields origin (f ∷ fs) (t ∷ ts) octets = (front : List ℕ) × (back : List ℕ) × (octets ≡ front ++ back) × SpellsField origin f t front × SpellsFields origin fs ts back

-- why the next token is not parsed as a field: there is none; or it is rejected
abbrev pub RefusesNext : Option (List (List ℕ)) → Room → Field → List TokenSeen → List ℕ → ErrorKind → Type 0
RefusesNext origin room f [] old e = e ≡ EndOfEntry
RefusesNext origin room f (t ∷ ts) old e = RefusesField room (BeginsField origin f t) (SpellsField origin f t) ((field_form origin f).reason t.is_quoted t.text) old e

-- the next token is parsed as a field; or it is rejected at its offset, and no token is read
abbrev pub ParsesField : Option (List (List ℕ)) → Room → Field → TokenParser (Unit {0})
ParsesField origin room f end tokens old (Ok _) left new = (t : TokenSeen) × (tokens ≡ t ∷ left) × Gains (SpellsField origin f t) old new
ParsesField origin room f end tokens old (Err e) left new = (left ≡ tokens) × IsErrorAt (next_place tokens end) e × RefusesNext origin room f tokens old e.kind × Extends old new

-- the first of the tokens are parsed as the fields, one each, and the target gained their octets
pub record HasParsedFields (origin : Option (List (List ℕ))) (fields : List Field) (tokens : List TokenSeen) (old : List ℕ) (left : List TokenSeen) (new : List ℕ) : Type 0 where
  pub taken : List TokenSeen
  pub octets : List ℕ
  pub whole : tokens ≡ taken ++ left
  pub spelled : SpellsFields origin fields taken octets
  pub gained : new ≡ old ++ octets

-- the fields before an index are parsed, and the one at the index is rejected
pub record RefusesAField (origin : Option (List (List ℕ))) (room : Room) (fields : List Field) (tokens : List TokenSeen) (old : List ℕ) (place : ℕ) (e : ErrorKind) (left : List TokenSeen) (new : List ℕ) : Type 0 where
  pub field : Field
  pub is_field : slice_get fields place ≡ Some field
  pub middle : List ℕ
  pub before : HasParsedFields origin (take place fields) tokens old left middle
  pub why : RefusesNext origin room field left middle e
  pub extends : Extends middle new

-- the offset of the last of the tokens that are parsed as fields
abbrev pub last_place : List Field → List TokenSeen → ℕ → ℕ
last_place fields tokens end = next_place (drop (length fields - 1) tokens) end

-- all fields are parsed, and this is the offset of the last; or one is rejected
abbrev pub ParsesAllFields : Option (List (List ℕ)) → Room → List Field → TokenParser ℕ
ParsesAllFields origin room fields end tokens old (Ok at) left new = HasParsedFields origin fields tokens old left new × (at ≡ last_place fields tokens end)
ParsesAllFields origin room fields end tokens old (Err e) left new = (place : ℕ) × RefusesAField origin room fields tokens old place e.kind left new × IsErrorInField place (next_place left end) e

-- each of the tokens spells the field, and the octets are theirs, one after another
abbrev pub SpellsEach : Option (List (List ℕ)) → Field → List TokenSeen → List ℕ → Type 0
SpellsEach origin f tokens octets = SpellsFields origin (replicate (length tokens) f) tokens octets

-- all tokens are parsed; or one is rejected
abbrev pub ParsesEachAs : Option (List (List ℕ)) → Room → Field → TokenParser (Unit {0})
ParsesEachAs origin room f end tokens old (Ok _) left new = (left ≡ []) × Gains (SpellsEach origin f tokens) old new
ParsesEachAs origin room f end tokens old (Err e) left new = (count : ℕ) × RefusesAField origin room (replicate (suc count) f) tokens old count e.kind left new × IsErrorAt (next_place left end) e

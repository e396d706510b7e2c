-- A token, or tokens, that are rejected as fields have one error.
use Rattle.std.specs.Prelude.{ℕ, ◌≡◌, ◌≢◌, Bool, Option, List}
use Rattle.dns_octets.specs.Room.{Room}
use Rattle.dns_lexer.specs.EntryTokens.{TokenSeen}
use Rattle.rdata_values.specs.declared.error.ErrorKind.{ErrorKind}
use Rattle.rdata_values.specs.declared.error.ErrorKind.TheVariants.{ShortBuf}
use Rattle.rdata_fields.specs.declared.field.Field.{Field}
use Rattle.rdata_fields.specs.Fields.{field_form}
use Rattle.rdata_fields.specs.Forms.{FieldForm}
use Rattle.rdata_fields.specs.Parsing.{RefusesAField}

-- of the reasons of a form a token has one at most
abbrev pub HasOneReason : FieldForm → Type 0
HasOneReason f = (quoted : Bool) (text : List ℕ) (a b : ErrorKind) → f.reason quoted text a → f.reason quoted text b → a ≡ b

-- Tokens are rejected at one field, with one error: whatever the room, if it suffices, and whatever the
-- target had.
abbrev pub HaveOneError : Option (List (List ℕ)) → List Field → Type 0
HaveOneError origin fields = (room other : Room) (tokens left last : List TokenSeen) (old before new after : List ℕ) (place index : ℕ) (a b : ErrorKind)
    → RefusesAField origin room fields tokens old place a left new → RefusesAField origin other fields tokens before index b last after
    → a ≢ ShortBuf → b ≢ ShortBuf → (place ≡ index) × (left ≡ last) × (a ≡ b)

-- this holds of each kind of field, and of fields one after another
pub record HaveFieldsOneError : Type 0 where
  pub one : (origin : Option (List (List ℕ))) (f : Field) → HasOneReason (field_form origin f)
  pub all : (origin : Option (List (List ℕ))) (fields : List Field) → HaveOneError origin fields

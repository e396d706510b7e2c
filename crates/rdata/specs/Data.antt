-- RDATA of a shape: fields of one token each, and a tail that goes to the entry's end.
use Rattle.std.specs.Prelude.{ℕ, ◌≡◌, ◌⊎◌, ◌<◌, ◌+◌, ◌-◌, ⊤, Option, None, List, [], ◌++◌, length, slice_index, Ok, Err}
use Rattle.rdata_tokens.specs.DigestLengths.{IsDigestLength, wanted_digest}
use Rattle.dns_octets.specs.Room.{Room}
use Rattle.dns_octets.specs.Appending.{Extends, Gains}
use Rattle.rdata_fields.specs.Source.{next_place}
use Rattle.rdata_fields.specs.Parsing.{SpellsFields, ParsesAllFields, HasParsedFields, last_place}
use Rattle.rdata_fields.specs.TokenParsers.{TokenParser}
use Rattle.rdata_fields.specs.RecordErrors.{error_at, error_in_field}
use Rattle.rdata_fields.specs.declared.record_error.RecordError.{RecordError}
use Rattle.rdata_values.specs.declared.error.ErrorKind.{ErrorKind}
use Rattle.rdata_values.specs.declared.error.ErrorKind.TheVariants.{ShortBuf, WrongLength}
use Rattle.dns_lexer.specs.EntryTokens.{TokenSeen}
use Rattle.rdata.specs.RestKinds.{IsRestOf, ParsesTailParts, rest_form}
use Rattle.rdata.specs.Wire.{BeginsWithFields}
use Rattle.rdata.specs.declared.shape.LengthRule.{LengthRule}
use Rattle.rdata.specs.declared.shape.LengthRule.TheVariants.{Any, Digest, Hash}
use Rattle.rdata.specs.declared.shape.Shape.{Shape}

-- the length that octets of the RDATA require: none; or a digest follows the octet at an offset,
-- which names its kind; or the hash of NSEC3, after algorithm, flags, iterations and salt, has 20
-- octets if the algorithm is 1
abbrev pub HasLength : LengthRule → List ℕ → Type 0
HasLength Any octets = ⊤
HasLength (Digest digests place) octets = IsDigestLength digests (slice_index octets place) (length octets - (place + 1))
HasLength Hash octets = slice_index octets 0 ≡ 1 → slice_index octets (5 + slice_index octets 4) ≡ 20

-- the length of the digest or the hash, in octets
abbrev pub found_length : LengthRule → List ℕ → ℕ
found_length Any octets = 0
found_length (Digest digests place) octets = length octets - (place + 1)
found_length Hash octets = slice_index octets (5 + slice_index octets 4)

-- the length that is required by the number before it: for a digest the one of its list, and for a SHA-1 hash 20
abbrev pub wanted_length : LengthRule → List ℕ → ℕ
wanted_length Any octets = 0
wanted_length (Digest digests place) octets = wanted_digest digests (slice_index octets place)
wanted_length Hash octets = 20

-- the digest or the hash has another length
abbrev pub wrong_length : LengthRule → List ℕ → ErrorKind
wrong_length lengths octets = WrongLength (found_length lengths octets) (wanted_length lengths octets)

-- tokens spell RDATA of a shape: the first of them its fields, and the others its tail
pub record SpellsData (origin : Option (List (List ℕ))) (shape : Shape) (tokens : List TokenSeen) (octets : List ℕ) : Type 0 where
  pub first : List TokenSeen
  pub last : List TokenSeen
  pub front : List ℕ
  pub back : List ℕ
  pub tokens_are : tokens ≡ first ++ last
  pub octets_are : octets ≡ front ++ back
  pub fields : SpellsFields origin shape.fields.now first front
  pub rest : (rest_form origin shape.rest).spells last back
  pub lengths : HasLength shape.length octets

-- octets are RDATA of a shape in its text form
pub record IsTextData (shape : Shape) (octets : List ℕ) : Type 0 where
  pub back : List ℕ
  pub fields : BeginsWithFields shape.fields.now octets back
  pub rest : (rest_form None shape.rest).is_wire back
  pub lengths : HasLength shape.length octets

-- octets are RDATA of a shape, in its text form or without one
pub record IsDataOf (shape : Shape) (octets : List ℕ) : Type 0 where
  pub back : List ℕ
  pub fields : BeginsWithFields shape.fields.now octets back
  pub rest : IsRestOf shape.rest back
  pub lengths : HasLength shape.length octets

-- the octets of the fields have a hash that does not have the required length
abbrev pub HasWrongHash : LengthRule → List ℕ → Type 0
HasWrongHash Any octets = ⊥
HasWrongHash (Digest digests place) octets = ⊥
HasWrongHash Hash octets = (5 + slice_index octets 4 < length octets) × (HasLength Hash octets → ⊥)

-- all tokens after the fields are parsed, and the length of the digest is wrong
abbrev pub IsWrongLength : Shape → ℕ → List TokenSeen → List ℕ → RecordError → Type 0
IsWrongLength shape end behind octets r =
    (HasLength shape.length octets → ⊥) × (r ≡ error_in_field (length shape.fields.now) (error_at (next_place behind end) (wrong_length shape.length octets)))

-- The fields are parsed, and the RDATA is rejected: for a hash among the fields, the last of them;
-- for the tail; or for the length of the tail, after all tokens are parsed.
pub record RefusesAfterFields (origin : Option (List (List ℕ))) (room : Room) (shape : Shape) (end : ℕ) (tokens : List TokenSeen) (old : List ℕ) (r : RecordError) (left : List TokenSeen) (new : List ℕ) : Type 0 where
  pub behind : List TokenSeen
  pub middle : List ℕ
  pub taken : HasParsedFields origin shape.fields.now tokens old behind middle
  pub why : ((r ≡ error_in_field (length shape.fields.now - 1) (error_at (last_place shape.fields.now tokens end) (wrong_length shape.length taken.octets)))
      × (left ≡ behind) × (new ≡ middle) × HasWrongHash shape.length taken.octets)
      ⊎ ((HasWrongHash shape.length taken.octets → ⊥)
      × (ParsesTailParts origin room shape.rest (length shape.fields.now) end behind middle (Err r) left new
      ⊎ ((left ≡ []) × Gains (λ back. (rest_form origin shape.rest).spells behind back × IsWrongLength shape end behind (taken.octets ++ back) r) middle new)))

-- all tokens are parsed, and the target gained the RDATA that they spell; or a field is rejected, and if the tokens spell RDATA, only because the octets don't surely fit
abbrev pub ReadsData : Option (List (List ℕ)) → Room → Shape → TokenParser (Unit {0})
ReadsData origin room shape end tokens old (Ok _) left new = (left ≡ []) × Gains (SpellsData origin shape tokens) old new
ReadsData origin room shape end tokens old (Err r) left new =
    (ParsesAllFields origin room shape.fields.now end tokens old (Err r) left new ⊎ RefusesAfterFields origin room shape end tokens old r left new)
    × ((octets : List ℕ) → SpellsData origin shape tokens octets → (r.kind ≡ ShortBuf) × (room.fits < length old + length octets))
    × Extends old new

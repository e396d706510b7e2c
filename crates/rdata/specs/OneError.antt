-- Tokens that are rejected as RDATA have one error.
use Rattle.std.specs.Prelude.{ℕ, ◌≡◌, ◌≢◌, Option, List, Ok, Err}
use Rattle.dns_octets.specs.Room.{Room}
use Rattle.dns_lexer.specs.EntryTokens.{TokenSeen}
use Rattle.rdata_fields.specs.TokenParsers.{TokenParser}
use Rattle.rdata_fields.specs.declared.record_error.RecordError.{RecordError}
use Rattle.rdata_values.specs.declared.error.ErrorKind.{ErrorKind}
use Rattle.rdata_values.specs.declared.error.ErrorKind.TheVariants.{ShortBuf}
use Rattle.rdata_values.specs.declared.types.RecordType.{RecordType}
use Rattle.rdata.specs.ByType.{ReadsType}
use Rattle.rdata.specs.Data.{ReadsData}
use Rattle.rdata.specs.RestKinds.{rest_form, IsRestPart}
use Rattle.rdata.specs.Rests.{RestForm}
use Rattle.rdata.specs.declared.rest.Rest.{Rest}
use Rattle.rdata.specs.declared.shape.Shape.{Shape}

-- tokens are rejected at one of them, or at the entry's end, and for one reason
abbrev pub RejectsOnce : RestForm → Type 0
RejectsOnce f = (tokens left last : List TokenSeen) (a b : ErrorKind) → f.reason tokens left a → f.reason tokens last b → (left ≡ last) × (a ≡ b)

-- the rejected token is of one part of the tail
abbrev pub HasOnePart : Option (List (List ℕ)) → Rest → Type 0
HasOnePart origin r = (tokens left : List TokenSeen) (e : ErrorKind) (part other : ℕ) → (rest_form origin r).reason tokens left e → IsRestPart origin r tokens left part → IsRestPart origin r tokens left other → part ≡ other

-- Two results of the same tokens, with any room and any octets before, neither of which is ShortBuf: if
-- one is an error, the other is the same error, with the same unread tokens.
pub record HasOneError (Reads : Room → TokenParser (Unit {0})) : Type 0 where
  pub same : (room other : Room) (end : ℕ) (tokens left last : List TokenSeen) (old before new after : List ℕ) (a b : RecordError) → Reads room end tokens old (Err a) left new → Reads other end tokens before (Err b) last after
      → a.kind ≢ ShortBuf → b.kind ≢ ShortBuf → (a ≡ b) × (left ≡ last)
  pub apart : (room other : Room) (end : ℕ) (tokens left last : List TokenSeen) (old before new after : List ℕ) (done : Unit {0}) (e : RecordError) → Reads room end tokens old (Ok done) left new → Reads other end tokens before (Err e) last after
      → e.kind ≢ ShortBuf → ⊥

-- This holds of RDATA of each shape, and of RDATA of each type, whatever the origin is. Each kind of tail
-- is rejected once, as one part.
pub record HaveOneDataError : Type 0 where
  pub rests : (origin : Option (List (List ℕ))) (r : Rest) → RejectsOnce (rest_form origin r)
  pub parts : (origin : Option (List (List ℕ))) (r : Rest) → HasOnePart origin r
  pub shapes : (origin : Option (List (List ℕ))) (shape : Shape) → HasOneError (λ room. ReadsData origin room shape)
  pub types : (origin : Option (List (List ℕ))) (rtype : RecordType) → HasOneError (λ room. ReadsType origin room rtype)

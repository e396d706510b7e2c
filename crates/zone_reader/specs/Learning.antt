-- How an entry changes the state.
use Rattle.std.specs.Prelude.{◌≡◌, ℕ, List, [], ◌∷◌, ◌++◌, slice_get, Option, Some, None, Result, Ok, Err}
use Rattle.dns_octets.specs.Room.{exactly}
use Rattle.dns_wire.specs.Limits.{max_name}
use Rattle.dns_wire.specs.Wire.{wire}
use Rattle.dns_lexer.specs.EntryTokens.{TokenSeen}
use Rattle.rdata_values.specs.declared.error.ErrorKind.{ErrorKind}
use Rattle.rdata_values.specs.declared.error.ErrorKind.TheVariants.{NoOwner, RefusedOwner}
use Rattle.rdata_fields.specs.RecordErrors.{IsErrorAt}
use Rattle.rdata_fields.specs.Source.{next_place}
use Rattle.rdata_fields.specs.Parsing.{SpellsField, RefusesNext}
use Rattle.rdata_fields.specs.declared.field.Field.TheVariants.{Name as OfName}
use Rattle.rdata_fields.specs.declared.record_error.RecordError.{RecordError}
use Rattle.zone_reader.specs.Past.{Declared, IsOriginAfter, IsOwnerAfter, IsRecordTtl, StateAfter, NamedBy, ttls_declared}
use Rattle.zone_reader.specs.declared.known.NameState.{NameState}
use Rattle.zone_reader.specs.declared.known.NameState.TheVariants.{Unset, Name, Rejected}
use Rattle.zone_reader.specs.declared.state.IncludeScope.{IncludeScope}
use Rattle.zone_reader.specs.declared.state.State.{State}
use Rattle.zone_reader.specs.declared.ttl.RecordTtl.{RecordTtl}
use Rattle.zone_reader.specs.declared.ttl.RecordTtl.TheVariants.{Explicit, Default, Last, Minimum}

-- a state after some past becomes the state after that past and these values
abbrev pub Updates : List Declared → State → State → Type 0
Updates said old new = (start : State) (past : List Declared) → StateAfter start past old → StateAfter start (past ++ said) new

-- The next token is parsed as a name; or it is rejected at its offset, for a reason for which a
-- name of at most 255 octets is rejected, and is not taken, and no name is stored.
abbrev pub ParsesName : Option (List (List ℕ)) → ℕ → List TokenSeen → Result (List (List ℕ)) RecordError → List TokenSeen → Type 0
ParsesName origin end tokens (Ok labels) left = (t : TokenSeen) × (tokens ≡ t ∷ left) × SpellsField origin OfName t (wire labels)
ParsesName origin end tokens (Err e) left =
    (left ≡ tokens) × IsErrorAt (next_place tokens end) e × RefusesNext origin (exactly max_name) OfName tokens [] e.kind × NamedBy origin (slice_get tokens 0) Rejected

-- the next token is parsed as a name, which is known then; or it is rejected, and the name is known as rejected
abbrev pub ParsesKnownName : Option (List (List ℕ)) → ℕ → List TokenSeen → Result (Unit {0}) RecordError → NameState → List TokenSeen → Type 0
ParsesKnownName origin end tokens (Ok _) known left = (labels : List (List ℕ)) × (known ≡ Name labels) × ParsesName origin end tokens (Ok labels) left
ParsesKnownName origin end tokens (Err e) known left = (known ≡ Rejected) × ParsesName origin end tokens (Err e) left

-- why no owner is known: none came before, or the last one is rejected
abbrev pub WhyNoOwner : NameState → ErrorKind → Type 0
WhyNoOwner Unset kind = kind ≡ NoOwner
WhyNoOwner (Name labels) kind = ⊥
WhyNoOwner Rejected kind = kind ≡ RefusedOwner

-- the TTL of a record after all that came before it
abbrev pub IsInheritedTtl : Option ℕ → Option ℕ → State → Option RecordTtl → Type 0
IsInheritedTtl own minimum state ttl = (start : State) (past : List Declared) → StateAfter start past state → IsRecordTtl start past own minimum ttl

-- the first of these that is known
abbrev pub chosen_ttl : Option ℕ → Option ℕ → Option ℕ → Option ℕ → Option RecordTtl
chosen_ttl (Some ttl) default last minimum = Some (Explicit ttl)
chosen_ttl None (Some ttl) last minimum = Some (Default ttl)
chosen_ttl None None (Some ttl) minimum = Some (Last ttl)
chosen_ttl None None None (Some ttl) = Some (Minimum ttl)
chosen_ttl None None None None = None

-- the origin and owner after these values
pub record IsMarkAfter (start : State) (past : List Declared) (mark : IncludeScope) : Type 0 where
  pub origin : IsOriginAfter start past mark.origin
  pub owner : IsOwnerAfter start past mark.owner

abbrev pub MarksPast : State → IncludeScope → Type 0
MarksPast state mark = (start : State) (past : List Declared) → StateAfter start past state → IsMarkAfter start past mark

-- after an included text, only its TTLs stay; the names are those of the mark
abbrev pub RestoresPast : IncludeScope → State → State → Type 0
RestoresPast mark old new = (start : State) (past included : List Declared) → IsMarkAfter start past mark → StateAfter start (past ++ included) old → StateAfter start (past ++ ttls_declared included) new

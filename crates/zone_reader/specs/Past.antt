-- What later entries inherit from entries (RFC 1035 section 5.1, RFC 2308 section 4).
use Rattle.std.specs.Prelude.{⊤, ◌≡◌, ◌⊎◌, ℕ, List, [], ◌∷◌, ◌++◌, Option, Some, None}
use Rattle.dns_wire.specs.Wire.{wire}
use Rattle.dns_lexer.specs.EntryTokens.{TokenSeen}
use Rattle.rdata_fields.specs.Parsing.{SpellsField}
use Rattle.rdata_fields.specs.declared.field.Field.TheVariants.{Name as OfName}
use Rattle.rdata_values.specs.declared.classes.Class.{Class}
use Rattle.zone_reader.specs.declared.known.NameState.{NameState}
use Rattle.zone_reader.specs.declared.known.NameState.TheVariants.{Unset, Name, Rejected}
use Rattle.zone_reader.specs.declared.state.State.{State}
use Rattle.zone_reader.specs.declared.ttl.RecordTtl.{RecordTtl}
use Rattle.zone_reader.specs.declared.ttl.RecordTtl.TheVariants.{Explicit, Default, Last, Minimum}

-- The values of entries that later ones inherit, in order: the token after `$ORIGIN`, or the
-- owner's token, if there is one that may be a name; a default TTL, by `$TTL` or by an SOA that has
-- no TTL and finds none; and a record's own TTL.
pub data Declared : Type 0 where
  NewOrigin : Option TokenSeen → Declared
  NewOwner : Option TokenSeen → Declared
  NewDefaultTtl : ℕ → Declared
  NewTtl : ℕ → Declared

abbrev pub origin_declared : Declared → Option (Option TokenSeen)
origin_declared (NewOrigin token) = Some token
origin_declared _ = None

abbrev pub owner_declared : Declared → Option (Option TokenSeen)
owner_declared (NewOwner token) = Some token
owner_declared _ = None

abbrev pub default_ttl_declared : Declared → Option ℕ
default_ttl_declared (NewDefaultTtl ttl) = Some ttl
default_ttl_declared _ = None

abbrev pub ttl_declared : Declared → Option ℕ
ttl_declared (NewTtl ttl) = Some ttl
ttl_declared _ = None

-- no value is of this kind
abbrev pub NoneDeclared : {X : Type 0} → (Declared → Option X) → List Declared → Type 0
NoneDeclared says [] = ⊤
NoneDeclared says (s ∷ past) = (says s ≡ None) × NoneDeclared says past

-- the last value of this kind
pub record DeclaredLast {X : Type 0} (says : Declared → Option X) (past : List Declared) (x : X) : Type 0 where
  pub before : List Declared
  pub at : Declared
  pub after : List Declared
  pub whole : past ≡ before ++ (at ∷ after)
  pub said : says at ≡ Some x
  pub silent : NoneDeclared says after

-- the labels of a name that is known; `None` if no name came before, or it is rejected
abbrev pub known_name : NameState → Option (List (List ℕ))
known_name Unset = None
known_name (Name labels) = Some labels
known_name Rejected = None

-- the name that a token spells, with the origin appended to relative names; or rejected, if it doesn't spell one or no token is there
abbrev pub NamedBy : Option (List (List ℕ)) → Option TokenSeen → NameState → Type 0
NamedBy origin None Unset = ⊥
NamedBy origin None (Name labels) = ⊥
NamedBy origin None Rejected = ⊤
NamedBy origin (Some t) Unset = ⊥
NamedBy origin (Some t) (Name labels) = SpellsField origin OfName t (wire labels)
NamedBy origin (Some t) Rejected = (octets : List ℕ) → ¬ SpellsField origin OfName t octets

-- the origin after these values: that of the start, if none came; and else the last one, parsed with the origin before it
pub data IsOriginAfter (start : State) : List Declared → NameState → Type 0 where
  no_origin_said : (past : List Declared) (origin : NameState) → NoneDeclared origin_declared past → origin ≡ start.origin → IsOriginAfter start past origin
  origin_said_last : (past : List Declared) (origin : NameState) (token : Option TokenSeen) (last : DeclaredLast origin_declared past token) (before : NameState) → IsOriginAfter start last.before before → NamedBy (known_name before) token origin
      → IsOriginAfter start past origin

-- the owner after these values: that of the start, if none came; and else the last one, parsed with the origin before it
pub data IsOwnerAfter (start : State) (past : List Declared) (owner : NameState) : Type 0 where
  no_owner_said : NoneDeclared owner_declared past → owner ≡ start.owner → IsOwnerAfter start past owner
  owner_said_last : (token : Option TokenSeen) (last : DeclaredLast owner_declared past token) (before : NameState) → IsOriginAfter start last.before before → NamedBy (known_name before) token owner → IsOwnerAfter start past owner

-- the last TTL of this kind, or that of the start
abbrev pub IsTtlAfter : (Declared → Option ℕ) → Option ℕ → List Declared → Option ℕ → Type 0
IsTtlAfter says first past ttl = (NoneDeclared says past × (ttl ≡ first)) ⊎ ((last : ℕ) × DeclaredLast says past last × (ttl ≡ Some last))

abbrev pub IsDefaultTtlAfter : State → List Declared → Option ℕ → Type 0
IsDefaultTtlAfter start past ttl = IsTtlAfter default_ttl_declared start.default_ttl past ttl

abbrev pub IsLastTtlAfter : State → List Declared → Option ℕ → Type 0
IsLastTtlAfter start past ttl = IsTtlAfter ttl_declared start.last_ttl past ttl

-- the state after a start and all values since; the class is always the start's
pub record StateAfter (start : State) (past : List Declared) (state : State) : Type 0 where
  pub origin : IsOriginAfter start past state.origin
  pub owner : IsOwnerAfter start past state.owner
  pub default_ttl : IsDefaultTtlAfter start past state.default_ttl
  pub last_ttl : IsLastTtlAfter start past state.last_ttl
  pub class : state.class ≡ start.class

-- the TTL of a record: its own; else the default; else that of the last record with one; else, of an SOA, its minimum; else `None`
abbrev pub IsRecordTtl : State → List Declared → Option ℕ → Option ℕ → Option RecordTtl → Type 0
IsRecordTtl start past own minimum (Some (Explicit ttl)) = own ≡ Some ttl
IsRecordTtl start past own minimum (Some (Default ttl)) = (own ≡ None) × IsDefaultTtlAfter start past (Some ttl)
IsRecordTtl start past own minimum (Some (Last ttl)) = (own ≡ None) × IsDefaultTtlAfter start past None × IsLastTtlAfter start past (Some ttl)
IsRecordTtl start past own minimum (Some (Minimum ttl)) = (own ≡ None) × IsDefaultTtlAfter start past None × IsLastTtlAfter start past None × (minimum ≡ Some ttl)
IsRecordTtl start past own minimum None = (own ≡ None) × IsDefaultTtlAfter start past None × IsLastTtlAfter start past None × (minimum ≡ None)

-- what entries after an included text inherit from it: its TTLs, and no names
abbrev pub ttls_declared : List Declared → List Declared
ttls_declared [] = []
ttls_declared (NewOrigin token ∷ past) = ttls_declared past
ttls_declared (NewOwner token ∷ past) = ttls_declared past
ttls_declared (NewDefaultTtl ttl ∷ past) = NewDefaultTtl ttl ∷ ttls_declared past
ttls_declared (NewTtl ttl ∷ past) = NewTtl ttl ∷ ttls_declared past

-- a class alone
abbrev pub nothing_declared : Class → State
nothing_declared class = record { origin = Unset; owner = Unset; default_ttl = None; last_ttl = None; class = class }

abbrev pub seconds_of : RecordTtl → ℕ
seconds_of (Explicit ttl) = ttl
seconds_of (Default ttl) = ttl
seconds_of (Last ttl) = ttl
seconds_of (Minimum ttl) = ttl

-- The state of a zone file between two calls.
use Rattle.std.specs.Prelude.{◌≡◌, ◌≢◌, ◌⊎◌, ◌<◌, ◌≤◌, ◌==◌, if◌then◌else◌, ℕ, Bool, true, false, List, [], length, take, drop, replicate, Option, Some, None, Ok, Err}
use Rattle.dns_wire.specs.FromOctets.{MakesName}
use Rattle.dns_wire.specs.declared.error.NameError.{NameError}
use Rattle.zone_reader.specs.declared.known.NameState.{NameState}
use Rattle.zone_reader.specs.declared.known.NameState.TheVariants.{Unset, Name, Rejected}
use Rattle.zone_reader.specs.declared.state.State.{State}
use Rattle.zone_reader.specs.Included.{OriginAppended}
use Rattle.c_calls.specs.Reasons.{refusal_of_name}
use Rattle.c_calls.specs.Reports.{ReportsFault, at_start}
use Rattle.c_calls.specs.declared.kept.KeptName.{KeptName}
use Rattle.c_calls.specs.declared.kept.Zone.{Zone}
use Rattle.c_calls.specs.declared.outcome.Outcome.{Outcome}

-- what is known, if it is
abbrev pub known_if : {X : Type 0} → Bool → X → Option X
known_if true x = Some x
known_if false x = None

-- the name in the first octets, in this number; or there are fewer, or they are not a name
abbrev pub MakesOrNot : List ℕ → ℕ → Option NameState → Type 0
MakesOrNot octets n (Some Unset) = ⊥
MakesOrNot octets n (Some (Name labels)) = (n ≤ length octets) × MakesName (take n octets) (Ok labels)
MakesOrNot octets n (Some Rejected) = ⊥
MakesOrNot octets n None = (length octets < n) ⊎ ((e : NameError) × MakesName (take n octets) (Err e))

-- a stored name: rejected, or none, or the name of the octets; or these are not a name
abbrev pub HoldsName : KeptName → Option NameState → Type 0
HoldsName kept (Some Unset) = (kept.is_refused ≡ 0) × (kept.length ≡ 0)
HoldsName kept (Some (Name labels)) = (kept.is_refused ≡ 0) × (kept.length ≢ 0) × MakesOrNot kept.octets kept.length (Some (Name labels))
HoldsName kept (Some Rejected) = kept.is_refused ≢ 0
HoldsName kept None = (kept.is_refused ≡ 0) × (kept.length ≢ 0) × MakesOrNot kept.octets kept.length None

-- a number that counts if its flag is not 0
abbrev pub flagged : ℕ → ℕ → Option ℕ
flagged flag n = if flag == 0 then None else Some n

-- the stored state; or a stored name is not a name
abbrev pub HoldsState : Zone → Option State → Type 0
HoldsState zone (Some state) =
    HoldsName zone.origin (Some state.origin) × HoldsName zone.owner (Some state.owner) × (state.default_ttl ≡ flagged zone.has_default_ttl zone.default_ttl)
    × (state.last_ttl ≡ flagged zone.has_last_ttl zone.last_ttl) × (state.class ≡ zone.class_code)
HoldsState zone None = HoldsName zone.origin None ⊎ HoldsName zone.owner None

-- the stored name is rejected, or none, or a name
abbrev pub HoldsSomeName : KeptName → Type 0
HoldsSomeName kept = (known : NameState) × HoldsName kept (Some known)

-- the stored state without its owner
abbrev pub HoldsButOwner : Zone → State → Type 0
HoldsButOwner zone state = (state.owner ≡ Unset) × ((owner : NameState) × HoldsState zone (Some (record state { owner = owner })))

-- the stored state for an entry on one line, with its owner or without it
abbrev pub HoldsForLine : Zone → State → Type 0
HoldsForLine zone state = HoldsState zone (Some state) ⊎ HoldsButOwner zone state

-- a name is stored now, with a flag of 0 or 1, and the length 0 if it was rejected; the octets after it are unchanged
pub record KeepsName (known : NameState) (old new : KeptName) : Type 0 where
  pub holds : HoldsName new (Some known)
  pub flag : new.is_refused ≤ 1
  pub rejected : new.is_refused ≢ 0 → new.length ≡ 0
  pub rest : drop new.length new.octets ≡ drop new.length old.octets

-- a TTL is stored in a flag of 0 or 1 and a number
abbrev pub KeepsTtl : Option ℕ → ℕ → ℕ → Type 0
KeepsTtl ttl flag seconds = (ttl ≡ flagged flag seconds) × (flag ≤ 1)

-- the state is stored now, and the offset of the next entry
pub record KeepsState (state : State) (at : ℕ) (old new : Zone) : Type 0 where
  pub origin : KeepsName state.origin old.origin new.origin
  pub owner : KeepsName state.owner old.owner new.owner
  pub default_ttl : KeepsTtl state.default_ttl new.has_default_ttl new.default_ttl
  pub last_ttl : KeepsTtl state.last_ttl new.has_last_ttl new.last_ttl
  pub class : state.class ≡ new.class_code
  pub at_is : new.at ≡ at

-- no name, with no octets; and the state at the start of a text: the class IN, and nothing else
abbrev pub no_kept_name : KeptName
no_kept_name = record { length = 0; is_refused = 0; octets = replicate 255 0 }

abbrev pub first_zone : Zone
first_zone = record { class_code = 1; has_default_ttl = 0; has_last_ttl = 0; default_ttl = 0; last_ttl = 0; at = 0; origin = no_kept_name; owner = no_kept_name }

-- the origin in octets: no octets mean no origin, and others are the octets of a name
abbrev pub IsOriginOf : List ℕ → Option (List (List ℕ)) → Type 0
IsOriginOf octets None = octets ≡ []
IsOriginOf octets (Some labels) = MakesName octets (Ok labels)

-- the origin, if there is one
abbrev pub optional_origin : Option (List (List ℕ)) → NameState
optional_origin None = Unset
optional_origin (Some labels) = Name labels

-- the origin of a file to include, by the octets after an entry
abbrev pub IsIncludedOrigin : Bool → List ℕ → NameState → Type 0
IsIncludedOrigin has_origin octets state = (origin : Option (List (List ℕ))) → OriginAppended origin has_origin octets → state ≡ optional_origin origin

-- the octets are the zone's origin from here on; or they are not a name, which is reported, and nothing was written
abbrev pub SetsOrigin : List ℕ → Zone → Zone → ℕ → Outcome → Type 0
SetsOrigin name old new status outcome =
    ((origin : Option (List (List ℕ))) × IsOriginOf name origin × (status ≡ 0) × (outcome ≡ record { length = 0; place = 0 })
    × KeepsName (optional_origin origin) old.origin new.origin × (new ≡ record old { origin = new.origin }))
    ⊎ ((e : NameError) × (name ≢ []) × MakesName name (Err e) × ReportsFault (at_start (refusal_of_name e)) status outcome × (new ≡ old))

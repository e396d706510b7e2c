-- Worked examples of the definitions.
use Rattle.std.specs.Prelude.{◌≡◌, [], ◌∷◌, Some, None, refl}
use Rattle.std.proofs.Common.{inl, inr}
use Rattle.zone_reader.specs.Past.{NewOrigin, NewOwner, NewDefaultTtl, NewTtl, IsOwnerAfter, no_owner_said, IsRecordTtl, nothing_declared, ttls_declared}
use Rattle.zone_reader.specs.declared.known.NameState.TheVariants.{Unset}
use Rattle.zone_reader.specs.declared.state.State.{State}
use Rattle.zone_reader.specs.declared.ttl.RecordTtl.TheVariants.{Explicit, Default, Last, Minimum}

-- the start of reading with the class IN alone
abbrev bare : State
bare = nothing_declared 1

-- after `$TTL 50`, records with no TTL, with 77, and with no TTL
default_row : IsRecordTtl bare (NewDefaultTtl 50 ∷ []) None None (Some (Default 50))
default_row = (refl, inr (50, record { before = []; at = NewDefaultTtl 50; after = []; whole = refl; said = refl; silent = tt }, refl))

own_row : IsRecordTtl bare (NewDefaultTtl 50 ∷ []) (Some 77) None (Some (Explicit 77))
own_row = refl

default_again_row : IsRecordTtl bare (NewDefaultTtl 50 ∷ NewTtl 77 ∷ []) None None (Some (Default 50))
default_again_row = (refl, inr (50, record { before = []; at = NewDefaultTtl 50; after = NewTtl 77 ∷ []; whole = refl; said = refl; silent = (refl, tt) }, refl))

-- without `$TTL`, after a record with 77
last_row : IsRecordTtl bare (NewTtl 77 ∷ []) None (Some 900) (Some (Last 77))
last_row = (refl, inl ((refl, tt), refl), inr (77, record { before = []; at = NewTtl 77; after = []; whole = refl; said = refl; silent = tt }, refl))

-- an SOA without a TTL comes first: its minimum, which is also the default of records after it
minimum_row : IsRecordTtl bare [] None (Some 900) (Some (Minimum 900))
minimum_row = (refl, inl (tt, refl), inl (tt, refl), refl)

-- no TTL is known
no_ttl_row : IsRecordTtl bare (NewOwner None ∷ []) None None None
no_ttl_row = (refl, inl ((refl, tt), refl), inl ((refl, tt), refl), refl)

-- the first entry begins with a blank
no_owner_row : IsOwnerAfter bare (NewDefaultTtl 50 ∷ []) Unset
no_owner_row = no_owner_said (refl, tt) refl

-- an included text with `$ORIGIN`, an owner and `$TTL 50`
included_row : ttls_declared (NewOrigin None ∷ NewOwner None ∷ NewDefaultTtl 50 ∷ NewTtl 77 ∷ []) ≡ NewDefaultTtl 50 ∷ NewTtl 77 ∷ []
included_row = refl

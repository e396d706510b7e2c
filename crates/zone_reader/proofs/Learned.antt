-- What a state learns.
use Rattle.std.proofs.Common.{ℕ, List, [], ◌∷◌, Option, Some, None, refl, inl, inr}
use Rattle.dns_lexer.specs.EntryTokens.{TokenSeen}
use Rattle.zone_reader.specs.Past.{Declared, NewOrigin, NewOwner, NewDefaultTtl, NewTtl, origin_declared, owner_declared, default_ttl_declared, ttl_declared, NamedBy, known_name, no_origin_said, origin_said_last, no_owner_said, owner_said_last, IsDefaultTtlAfter, IsLastTtlAfter, IsRecordTtl, StateAfter}
use Rattle.zone_reader.specs.Learning.{Updates, IsInheritedTtl, chosen_ttl}
use Rattle.zone_reader.specs.declared.known.NameState.{NameState}
use Rattle.zone_reader.specs.declared.state.State.{State}
use Rattle.zone_reader.proofs.Pasts.{said_alone}
use Rattle.zone_reader.proofs.PastStates.{starts, known_on}

pub learns_of : (said : List Declared) (old new : State) → StateAfter old said new → Updates said old new
learns_of said old new h = λ start past known. known_on start old past known said new h

pub origin_learned : (old : State) (token : Option TokenSeen) (o : NameState) → NamedBy (known_name old.origin) token o → Updates (NewOrigin token ∷ []) old (record old { origin = o })
origin_learned old token o named = learns_of (NewOrigin token ∷ []) old (record old { origin = o }) (record {
  origin = origin_said_last (NewOrigin token ∷ []) o token (said_alone origin_declared (NewOrigin token) token refl) old.origin (no_origin_said [] old.origin tt refl) named;
  owner = no_owner_said (refl, tt) refl;
  default_ttl = inl ((refl, tt), refl);
  last_ttl = inl ((refl, tt), refl);
  class = refl;
})

pub owner_learned : (old : State) (token : Option TokenSeen) (o : NameState) → NamedBy (known_name old.origin) token o → Updates (NewOwner token ∷ []) old (record old { owner = o })
owner_learned old token o named = learns_of (NewOwner token ∷ []) old (record old { owner = o }) (record {
  origin = no_origin_said (NewOwner token ∷ []) old.origin (refl, tt) refl;
  owner = owner_said_last token (said_alone owner_declared (NewOwner token) token refl) old.origin (no_origin_said [] old.origin tt refl) named;
  default_ttl = inl ((refl, tt), refl);
  last_ttl = inl ((refl, tt), refl);
  class = refl;
})

pub default_learned : (old : State) (ttl : ℕ) → Updates (NewDefaultTtl ttl ∷ []) old (record old { default_ttl = Some ttl })
default_learned old ttl = learns_of (NewDefaultTtl ttl ∷ []) old (record old { default_ttl = Some ttl }) (record {
  origin = no_origin_said (NewDefaultTtl ttl ∷ []) old.origin (refl, tt) refl;
  owner = no_owner_said (refl, tt) refl;
  default_ttl = inr (ttl, said_alone default_ttl_declared (NewDefaultTtl ttl) ttl refl, refl);
  last_ttl = inl ((refl, tt), refl);
  class = refl;
})

pub ttl_learned : (old : State) (ttl : ℕ) → Updates (NewTtl ttl ∷ []) old (record old { last_ttl = Some ttl })
ttl_learned old ttl = learns_of (NewTtl ttl ∷ []) old (record old { last_ttl = Some ttl }) (record {
  origin = no_origin_said (NewTtl ttl ∷ []) old.origin (refl, tt) refl;
  owner = no_owner_said (refl, tt) refl;
  default_ttl = inl ((refl, tt), refl);
  last_ttl = inr (ttl, said_alone ttl_declared (NewTtl ttl) ttl refl, refl);
  class = refl;
})

pub nothing_learned : (old : State) → Updates [] old old
nothing_learned old = learns_of [] old old (starts old)

chosen_is : (start : State) (past : List Declared) (own default last minimum : Option ℕ) → IsDefaultTtlAfter start past default → IsLastTtlAfter start past last
    → IsRecordTtl start past own minimum (chosen_ttl own default last minimum)
chosen_is start past (Some ttl) default last minimum h k = refl
chosen_is start past None (Some ttl) last minimum h k = (refl, h)
chosen_is start past None None (Some ttl) minimum h k = (refl, h, k)
chosen_is start past None None None (Some ttl) h k = (refl, h, k, refl)
chosen_is start past None None None None h k = (refl, h, k, refl)

pub ttl_told : (own minimum : Option ℕ) (state : State) → IsInheritedTtl own minimum state (chosen_ttl own state.default_ttl state.last_ttl minimum)
ttl_told own minimum state = λ start past h. chosen_is start past own state.default_ttl state.last_ttl minimum h.default_ttl h.last_ttl

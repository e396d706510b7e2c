-- What is rejected, and at which offset.
use Rattle.std.proofs.Common.{◌≡◌, ℕ, Bool, true, false, List, [], ◌∷◌, inr, Option, Some, None, Result, Ok, Err, refl, sym, ap, subst, ◌∙◌}
use Rattle.std.proofs.lemmas.Option.{none-some}
use Rattle.std.specs.Prelude.{slice_get, is_none, is_some, not}
use Rattle.std.specs.Result.{IsErrAnd}
use Rattle.rdata_fields.specs.RecordErrors.{IsErrorAt, error_at}
use Rattle.rdata_fields.specs.Source.{next_place}
use Rattle.rdata_fields.specs.declared.record_error.RecordError.{RecordError}
use Rattle.rdata_values.specs.declared.error.ErrorKind.{ErrorKind}
use Rattle.dns_lexer.specs.EntryTokens.{TokenSeen}
use Rattle.zone_reader.specs.Arguments.{ParsesDefaultTtl, ExpectsEnd, ParsesTtl, WhyNoTtl}
use Rattle.zone_reader.specs.Directives.{ParsesDirective, directive_of}
use Rattle.zone_reader.specs.HeaderWords.{TokenIsTtl, TokenIsClass}
use Rattle.zone_reader.specs.Headers.{ParsesTtlAndClass, ParsesType, WhyNoType}

module _ (end : ℕ) (t : TokenSeen) (at : ℕ) (why : ErrorKind) where
  pub ttl_refused : (tokens : List TokenSeen) → Some t ≡ slice_get tokens 0 → at ≡ next_place tokens end → WhyNoTtl (t ∷ []) why → ParsesTtl end tokens (Err (error_at at why)) tokens
  ttl_refused [] h is none = absurd (none-some t (sym h))
  ttl_refused (u ∷ us) h is none = let same : t ≡ u = cc h in (refl, ap (λ n. error_at n why) is, subst (λ v. WhyNoTtl (v ∷ []) why) same none)

  pub type_refused : (may_be_ttl : Bool) (tokens : List TokenSeen) → Some t ≡ slice_get tokens 0 → at ≡ next_place tokens end → WhyNoType may_be_ttl (t ∷ []) why → ParsesType may_be_ttl end tokens (Err (error_at at why)) tokens
  type_refused may_be_ttl [] h is none = absurd (none-some t (sym h))
  type_refused may_be_ttl (u ∷ us) h is none = let same : t ≡ u = cc h in (refl, ap (λ n. error_at n why) is, subst (λ v. WhyNoType may_be_ttl (v ∷ []) why) same none)

  pub directive_refused : (blank : Bool) (tokens : List TokenSeen) → blank ≡ false → Some t ≡ slice_get tokens 0 → at ≡ next_place tokens end → directive_of t ≡ Some (Err why) → ParsesDirective blank end tokens (Err (error_at at why)) tokens
  directive_refused true tokens plain h is none = cc
  directive_refused false [] plain h is none = absurd (none-some t (sym h))
  directive_refused false (u ∷ us) plain h is none = let same : t ≡ u = cc h in (refl, ap directive_of (sym same) ∙ none, ap (λ n. error_at n why) is)

-- a TTL is parsed, and the token after it is rejected
pub default_refused : (end : ℕ) (tokens middle left : List TokenSeen) (ttl : ℕ) (e : RecordError) (r : Result ℕ RecordError) → IsErrAnd r (λ d. d ≡ e) → ParsesTtl end tokens (Ok ttl) middle → ExpectsEnd middle (Err e) left → ParsesDefaultTtl end tokens r left
default_refused end tokens middle left ttl e (Ok n) h taken more = absurd h
default_refused end tokens [] left ttl e (Err d) h taken more = absurd more
default_refused end tokens (t ∷ ts) left ttl e (Err d) h taken more = subst (λ l. ParsesDefaultTtl end tokens (Err d) l) (sym more.0) (inr (ttl, taken, (refl, h ∙ more.1)))

none_said : (b : Bool) (o : Option ℕ) → is_some o ≡ not b → b ≡ is_none o
none_said true None h = refl
none_said true (Some n) h = cc
none_said false None h = cc
none_said false (Some n) h = refl

-- a TTL and a class are parsed, and no type comes after them
pub words_refused : (begun end : ℕ) (tokens middle left : List TokenSeen) (ttl class : Option ℕ) (may_be_ttl : Bool) (e : RecordError) → end ≡ begun → is_some ttl ≡ not may_be_ttl → ParsesTtlAndClass TokenIsTtl TokenIsClass tokens ttl class middle
    → ParsesType may_be_ttl end middle (Err e) left
    → ParsesTtlAndClass TokenIsTtl TokenIsClass tokens ttl class left × IsErrorAt (next_place left begun) e × WhyNoType (is_none ttl) left e.kind
words_refused begun end tokens middle left ttl class may_be_ttl e same may h k =
    subst (λ l. ParsesTtlAndClass TokenIsTtl TokenIsClass tokens ttl class l × IsErrorAt (next_place l begun) e × WhyNoType (is_none ttl) l e.kind) (sym k.0) (h, subst (λ n. IsErrorAt (next_place middle n) e) same k.1, subst (λ b. WhyNoType b middle e.kind) (none_said may_be_ttl ttl may) k.2)

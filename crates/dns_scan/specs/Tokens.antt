-- The effect of a call of a scanner on its remaining tokens.
use Rattle.std.specs.Prelude.{ℕ, List, ◌≡◌, ◌≢◌, Option, Some, Result, Ok, Err, Bool, true, false, MatchOption, codes}
use Rattle.dns_symbol.specs.Cause.{Cause, custom_text, end_of_entry, trailing_tokens, IsCause}

-- a token: its text's bytes
abbrev pub Token : Type 0
Token = List ℕ

-- a call that consumed no token: what may come next after it might have come next before it
abbrev pub ConsumesNothing : {S : Type 0} → (S → Option Token → S → Type 0) → S → S → Type 0
ConsumesNothing {S} next old new = (o : Option Token) (u : S) → next new o u → next old o u

-- a call that looked ahead and consumed nothing: o is what comes next, or none if no token remains
pub record Peeks {S : Type 0} (next : S → Option Token → S → Type 0) (old new : S) (o : Option Token) : Type 0 where
  pub same : ConsumesNothing next old new
  pub shown : (u : S) × next new o u
  pub only : (p : Option Token) (u : S) → next new p u → p ≡ o

-- a call that looked ahead and consumed nothing, where P holds of what comes next
abbrev pub LooksAhead : {S : Type 0} → (S → Option Token → S → Type 0) → S → S → (Option Token → Type 0) → Type 0
LooksAhead next old new P = (o : Option Token) × Peeks next old new o × P o

-- Ok at the end of the entry; a token that comes next is rejected as "trailing data"
abbrev pub AtEnd : {E : Type 0} → (E → Cause) → Result (Unit {0}) E → Option Token → Type 0
AtEnd cause r o = MatchOption o (r ≡ Ok tt) (λ _. IsCause cause r trailing_tokens)

-- a call that requested one token: the consumed token and what holds of it and the result, or the error if none was left
pub record ScansToken {S V E : Type 0} (next : S → Option Token → S → Type 0) (cause : E → Cause) (answers : Token → Result V E → Type 0)
    (old : S) (r : Result V E) (new : S) : Type 0 where
  pub token : Option Token
  pub taken : next old token new
  pub answer : MatchOption token (IsCause cause r end_of_entry) (λ t. answers t r)

-- the token before RDATA of an unknown type
abbrev pub marker : Token
marker = codes "\\#"

-- r is true and a marker was consumed; or r is false, nothing was, and no marker comes next
abbrev pub MarkerCall : {S E : Type 0} → (S → Option Token → S → Type 0) → S → Result Bool E → S → Type 0
MarkerCall next old (Ok true) new = next old (Some marker) new
MarkerCall next old (Ok false) new = (o : Option Token) × Peeks next old new o × (o ≢ Some marker)
MarkerCall next old (Err e) new = ⊥

-- a scanner that parses no service parameters
abbrev pub no_svcb_octets : Cause
no_svcb_octets = custom_text (codes "Scanning SVCB octets is only implemented by some Scanners")

-- Values in order, while tokens remain.
use Rattle.std.proofs.Common.{◌≡◌, List, [], ◌∷◌, ◌++◌, true, false, refl, ap, subst, ◌∙◌, ⊎_elim, Option, Result, Ok, Err, Vec}
use Rattle.std.specs.Prelude.{◌≢◌, is_some, IsOkAnd, MatchOption, MatchResult}
use Rattle.dns_symbol.specs.Cause.{Cause}
use Rattle.dns_scan.specs.Reads.{ReadsRest, ReadsSome}
use Rattle.dns_scan.specs.Unread.{HasTokens, consumes_first, consumes_none, first_of}
use Rattle.dns_scan.specs.Tokens.{Token, Peeks}

-- a look ahead finds the first token, and consumes none
pub peeked : {S : Type 0} (next : S → Option Token → S → Type 0) (u v : S) (o : Option Token) (ts : List Token) → HasTokens next u ts → Peeks next u v o → (o ≡ first_of ts) × HasTokens next v ts
peeked next u v o ts stands p = let at = consumes_none next u v ts stands p.same in ((consumes_first next v ts o p.shown.0 at p.shown.1).0, at)

pub none_left : (ts : List Token) (o : Option Token) → o ≡ first_of ts → false ≡ is_some o → ts ≡ []
none_left [] o is h = refl
none_left (t ∷ ts) o is h = let z : false ≡ true = h ∙ ap is_some is in cc

pub some_left : (ts : List Token) (o : Option Token) → o ≡ first_of ts → true ≡ is_some o → ts ≢ []
some_left [] o is h = λ e. let z : true ≡ false = h ∙ ap is_some is in cc
some_left (t ∷ ts) o is h = λ e. cc

-- so tokens remain if it finds one, and none if it doesn't
pub peeked_some : {S : Type 0} (next : S → Option Token → S → Type 0) (u v : S) (o : Option Token) (ts : List Token) → HasTokens next u ts → Peeks next u v o → true ≡ is_some o
    → (ts ≢ []) × HasTokens next v ts
peeked_some next u v o ts stands p some = let left = peeked next u v o ts stands p in (some_left ts o left.0 some, left.1)

pub peeked_none : {S : Type 0} (next : S → Option Token → S → Type 0) (u v : S) (o : Option Token) (ts : List Token) → HasTokens next u ts → Peeks next u v o → false ≡ is_some o
    → (ts ≡ []) × HasTokens next v ts
peeked_none next u v o ts stands p none = let left = peeked next u v o ts stands p in (none_left ts o left.0 none, left.1)

-- what holds by whether a token remains
pub when_some : (P : Type 0) (Q : Token → Type 0) (ts : List Token) (o : Option Token) → o ≡ first_of ts → true ≡ is_some o → ((t : Token) → Q t) → MatchOption (first_of ts) P Q
when_some P Q [] o is h q = absurd (some_left [] o is h refl)
when_some P Q (t ∷ ts) o is h q = q t

pub when_none : (P : Type 0) (Q : Token → Type 0) (ts : List Token) (o : Option Token) → o ≡ first_of ts → false ≡ is_some o → P → MatchOption (first_of ts) P Q
when_none P Q [] o is h p = p
when_none P Q (t ∷ ts) o is h p = let z : t ∷ ts ≡ [] = none_left (t ∷ ts) o is h in cc

-- a list with one more at its end has some
pub ends_with_one : {V : Type 0} (values : List V) (v : V) → values ++ v ∷ [] ≢ []
ends_with_one [] v e = cc
ends_with_one (w ∷ ws) v e = cc

module _ {V : Type 0} (reads : List Token → Result V Cause → List Token → Type 0) where
  -- one more at the end
  pub some_more : (tokens : List Token) (values : List V) (middle after : List Token) (v : V) → ReadsSome reads tokens values middle → middle ≢ [] → reads middle (Ok v) after
      → ReadsSome reads tokens (values ++ v ∷ []) after
  some_more tokens [] middle after v some left k = subst (λ t. (m : List Token) × (t ≢ []) × reads t (Ok v) m × (after ≡ m)) some (after, left, k, refl)
  some_more tokens (w ∷ ws) middle after v some left k = (some.0, some.1, some.2, some_more some.0 ws middle after v some.3 left k)

  -- of no token nothing is read
  some_of_none : (values : List V) (middle : List Token) → ReadsSome reads [] values middle → (values ≡ []) × (middle ≡ [])
  some_of_none [] middle some = (refl, some)
  some_of_none (v ∷ vs) middle some = absurd (some.1 refl)

  pub none_refused : (why : Cause) (rest : List Token) → ReadsRest reads [] (Err why) rest → ⊥
  none_refused why rest h = let none = some_of_none h.0 h.1 h.2 in ⊎_elim (λ k. k.0 none.1) (λ k. k.0 none.0) h.3

  -- so without tokens the list is empty, and allocates nothing
  pub rest_of_none : {A E : Type 0} (cause : E → Cause) (r : Result (Vec V A) E) (rest : List Token)
      → MatchResult r (λ v. ReadsRest reads [] (Ok v.items) rest) (λ e. ReadsRest reads [] (Err (cause e)) rest) → IsOkAnd r (λ v. v.items ≡ [])
  rest_of_none cause (Ok v) rest h = (some_of_none v.items [] h.0).0
  rest_of_none cause (Err e) rest h = none_refused (cause e) rest h

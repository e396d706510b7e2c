-- From the effect of a call on a scanner to the result of the tokens that remained before it.
use Rattle.std.proofs.Common.{ℕ, suc, ◌≡◌, ◌<◌, ◌+◌, List, [], ◌∷◌, length, drop, get_or, drop-cons, arith, ◌∙◌, refl, sym, ap, subst, inl, inr, Option, Some, None, Result, Ok, Err}
use Rattle.std.specs.Prelude.{IsErrAnd, MatchOption}
use Rattle.dns_octets.specs.Room.{Room}
use Rattle.dns_symbol.specs.declared.symbol.Symbol.{Symbol}
use Rattle.dns_symbol.specs.declared.error.SymbolCharsError.{SymbolCharsError}
use Rattle.dns_scan.specs.Answers.{AnswersOctets}
use Rattle.dns_scan.specs.Asks.{Builds}
use Rattle.dns_symbol.specs.Cause.{Cause, end_of_entry, IsCause}
use Rattle.dns_scan.specs.Numbers.{ScannedNumber, by_cause}
use Rattle.dns_scan.specs.Reads.{ReadsEach, ReadsInTurn, ReadsFirstToken, NumberReads, OctetsRead}
use Rattle.dns_scan.specs.Unread.{HasTokens, consumes_first, others_of}
use Rattle.dns_scan.specs.Steps.{HasStepOctets, step_octet}
use Rattle.dns_scan.specs.Tokens.{Token, ScansToken}
use Rattle.dns_scan.proofs.Answered.{builds_read}

module _ {S V E : Type 0} (next : S → Option Token → S → Type 0) (cause : E → Cause) (answers : Token → Result V E → Type 0) (reads : Token → Result V Cause → Type 0)
    (shows : (t : Token) (r : Result V E) → answers t r → reads t (by_cause cause r)) where
  pub reads_first : (old : S) (r : Result V E) (new : S) → ScansToken next cause answers old r new → (tokens : List Token) → HasTokens next old tokens
      → (rest : List Token) × ReadsFirstToken reads tokens (by_cause cause r) rest × HasTokens next new rest
  reads_first old r new scans tokens stands =
      let took = consumes_first next old tokens scans.token new stands scans.taken in
      (others_of tokens, (subst (λ o. MatchOption o (by_cause cause r ≡ Err end_of_entry) (λ t. reads t (by_cause cause r))) took.0 (by scans.token r scans.answer), refl), took.1)
    where
      by : (o : Option Token) (r : Result V E) → MatchOption o (IsCause cause r end_of_entry) (λ t. answers t r) → MatchOption o (by_cause cause r ≡ Err end_of_entry) (λ t. reads t (by_cause cause r))
      by None (Ok v) h = absurd h
      by None (Err e) h = ap (λ w. Err w) h
      by (Some t) r h = shows t r h

module _ {E : Type 0} (cause : E → Cause) where
  pub octets_show : (room : Room) (t : Token) (r : Result (List ℕ) E) → Builds cause (HasStepOctets cause room step_octet) (λ s. s) t r → OctetsRead room t (by_cause cause r)
  octets_show room t r h = let read = builds_read cause step_octet room (λ s. s) t r h in (read.0, read.1, read.2, by r read.0 read.1 read.3)
    where
      by : (r : Result (List ℕ) E) (symbols : List Symbol) (error : Option SymbolCharsError) → AnswersOctets step_octet room cause (λ s. s) symbols error r
          → AnswersOctets step_octet room (λ why. why) (λ s. s) symbols error (by_cause cause r)
      by (Ok v) symbols error k = k
      by (Err e) symbols error k = k

module _ {S E : Type 0} (next : S → Option Token → S → Type 0) (cause : E → Cause) where
  number_shows : (limit : ℕ) (t : Token) (r : Result ℕ E) → ScannedNumber cause limit t r → NumberReads limit t (by_cause cause r)
  number_shows limit t (Ok v) h = record { symbols = h.symbols; error = h.error; read = h.read; reads = h.reads }
  number_shows limit t (Err e) h = record { symbols = h.symbols; error = h.error; read = h.read; reads = h.reads }

  pub number_first : (limit : ℕ) (old : S) (r : Result ℕ E) (new : S) → ScansToken next cause (ScannedNumber cause limit) old r new → (tokens : List Token) → HasTokens next old tokens
      → (rest : List Token) × ReadsFirstToken (NumberReads limit) tokens (by_cause cause r) rest × HasTokens next new rest
  number_first limit = reads_first next cause (ScannedNumber cause limit) (NumberReads limit) (number_shows limit)

  -- if the error is passed on
  pub number_refused : (limit : ℕ) (old : S) (e : E) (r : Result ℕ E) (new : S) → IsErrAnd r (λ y. y ≡ e) → ScansToken next cause (ScannedNumber cause limit) old (Err e) new
      → (tokens : List Token) → HasTokens next old tokens → (rest : List Token) × ReadsFirstToken (NumberReads limit) tokens (by_cause cause r) rest × HasTokens next new rest
  number_refused limit old e (Ok v) new same scans = absurd same
  number_refused limit old e (Err y) new same scans =
      number_first limit old (Err y) new (subst (λ (x : E). ScansToken next cause (ScannedNumber cause limit) old (Err x) new) (sym same) scans)

  pub octets_first : (room : Room) (old : S) (r : Result (List ℕ) E) (new : S) → ScansToken next cause (Builds cause (HasStepOctets cause room step_octet) (λ s. s)) old r new
      → (tokens : List Token) → HasTokens next old tokens → (rest : List Token) × ReadsFirstToken (OctetsRead room) tokens (by_cause cause r) rest × HasTokens next new rest
  octets_first room = reads_first next cause (Builds cause (HasStepOctets cause room step_octet) (λ s. s)) (OctetsRead room) (octets_show cause room)

-- readings in turn, from the first one on
module _ {V : Type 0} (reads : List Token → Result V Cause → List Token → Type 0) where
  pub each_more : (k n : ℕ) → k ≡ suc n → (tokens middle rest : List Token) (v : V) (more : List V) (refusal : Option Cause) → reads tokens (Ok v) middle
      → ReadsEach reads n middle more refusal rest → ReadsEach reads k tokens (v ∷ more) refusal rest
  each_more k n is tokens middle rest v more refusal first others =
      subst (λ m. ReadsEach reads m tokens (v ∷ more) refusal rest) (sym is) (inl (v, more, middle, first, refl, others))

  pub each_stop : (k n : ℕ) → k ≡ suc n → (tokens rest : List Token) (why : Cause) → reads tokens (Err why) rest → ReadsEach reads k tokens [] (Some why) rest
  each_stop k n is tokens rest why stop = subst (λ m. ReadsEach reads m tokens [] (Some why) rest) (sym is) (inr (why, stop, refl, refl))

  pub each_end : (k : ℕ) → k ≡ 0 → (tokens : List Token) → ReadsEach reads k tokens [] None tokens
  each_end k is tokens = subst (λ m. ReadsEach reads m tokens [] None tokens) (sym is) (refl, refl, refl)

-- readings of a list in turn, from the first one on
module _ {K V : Type 0} (reads : K → List Token → Result V Cause → List Token → Type 0) where
  pub turn_more : (all later : List K) (k : K) → all ≡ k ∷ later → (tokens middle rest : List Token) (v : V) (more : List V) (refusal : Option Cause) → reads k tokens (Ok v) middle
      → ReadsInTurn reads later middle more refusal rest → ReadsInTurn reads all tokens (v ∷ more) refusal rest
  turn_more all later k is tokens middle rest v more refusal first others = subst (λ ks. ReadsInTurn reads ks tokens (v ∷ more) refusal rest) (sym is) (inl (v, more, middle, first, refl, others))

  pub turn_stop : (all later : List K) (k : K) → all ≡ k ∷ later → (tokens rest : List Token) (why : Cause) → reads k tokens (Err why) rest → ReadsInTurn reads all tokens [] (Some why) rest
  turn_stop all later k is tokens rest why stop = subst (λ ks. ReadsInTurn reads ks tokens [] (Some why) rest) (sym is) (inr (why, stop, refl, refl))

  pub turn_end : (all : List K) → all ≡ [] → (tokens : List Token) → ReadsInTurn reads all tokens [] None tokens
  turn_end all is tokens = subst (λ ks. ReadsInTurn reads ks tokens [] None tokens) (sym is) (refl, refl, refl)

-- the next of a list from an index on
pub next_at : {K : Type 0} (l : List K) (j : ℕ) (d : K) → j < length l → drop j l ≡ get_or l j d ∷ drop (j + 1) l
next_at l j d less = let same : suc j ≡ j + 1 = omega arith in drop-cons l j d less ∙ ap (λ n. get_or l j d ∷ drop n l) same

-- The calls of a scanner that convert tokens or consume all that remain.
use Rattle.std.specs.Prelude.{ℕ, List, [], ◌∷◌, ◌++◌, ◌+◌, ◌<◌, ◌≤◌, length, ◌≡◌, Option, Some, None, Result, Ok, Err, IsErr, IsOkAnd, MatchResult, ◌⊎◌, codes}
use Rattle.std.specs.Str.{IsAscii, IsNotAscii}
use Rattle.dns_octets.specs.Room.{Room, within}
use Rattle.dns_symbol.specs.declared.symbol.Symbol.{Symbol}
use Rattle.dns_symbol.specs.declared.symbol.EntrySymbol.{EntrySymbol}
use Rattle.dns_symbol.specs.declared.symbol.EntrySymbol.TheVariants.{EndOfToken, Symbol as Of}
use Rattle.dns_charstr.specs.Wire.{wire_of}
use Rattle.dns_symbol.specs.Cause.{Cause, custom_text, short_buf, IsCause}
use Rattle.dns_scan.specs.Tokens.{Token}
use Rattle.dns_scan.specs.Asks.{CallsEachSymbol}
use Rattle.dns_scan.specs.Steps.{Adds, HasStepOctets, step_octet, step_text}
use Rattle.dns_charstr.specs.Limits.{max_string}

-- each token in order is consumed and passed to a call, until one is rejected: that is the last one, and without an error none remains
module _ {S F E : Type 0} (next : S → Option Token → S → Type 0) (call : F → Token → Result (Unit {0}) E → F → Type 0) where
  abbrev pub ScansEach : List Token → S → F → Result (Unit {0}) E → S → F → Type 0
  ScansEach [] s f r u g = next s None u × (g ≡ f) × (r ≡ Ok tt)
  ScansEach (t ∷ ts) s f r u g = (m : S) × next s (Some t) m × (((h : F) × call f t (Ok tt) h × ScansEach ts m h r u g) ⊎ (IsErr r × call f t r g × (u ≡ m)))

-- a call that consumes all tokens, up to the first that is rejected
pub record ScansEntry {S F E : Type 0} (next : S → Option Token → S → Type 0) (call : F → Token → Result (Unit {0}) E → F → Type 0)
    (old : S) (f : F) (r : Result (Unit {0}) E) (new : S) (g : F) : Type 0 where
  pub tokens : List Token
  pub taken : ScansEach next call tokens old f r new g

-- the symbols of a token and then its end, until one is rejected
abbrev pub AsksToken : {F E : Type 0} → (E → Cause) → (F → EntrySymbol → Result (Unit {0}) E → F → Type 0) → F → Token → Result (Unit {0}) E → F → Type 0
AsksToken {F} {E} cause step f t r g =
    ((h : F) × CallsEachSymbol cause (λ p x q s. step p (Of x) q s) t f (Ok tt) h × step h EndOfToken r g)
    ⊎ (IsErr r × CallsEachSymbol cause (λ p x q s. step p (Of x) q s) t f r g)

-- a converter and the octets built before, with a builder of that room
module _ {E : Type 0} (cause : E → Cause) (room : Room) where
  -- one symbol
  abbrev pub ConvertStep : {C X : Type 0} → (C → X → Result (List ℕ) E → C → Type 0) → C × List ℕ → X → Result (Unit {0}) E → C × List ℕ → Type 0
  ConvertStep takes p x r q = (made : Result (List ℕ) E) × takes p.0 x made q.0 × Adds cause room made p.1 r q.1

  -- the tail
  abbrev pub ConvertTail : {C : Type 0} → (C → Result (List ℕ) E → C → Type 0) → C × List ℕ → Result (Unit {0}) E → C × List ℕ → Type 0
  ConvertTail tail p r q = (made : Result (List ℕ) E) × tail p.0 made q.0 × Adds cause room made p.1 r q.1

  -- the symbols of a token
  abbrev pub ConvertToken : {C : Type 0} → (C → Symbol → Result (List ℕ) E → C → Type 0) → C × List ℕ → Token → Result (Unit {0}) E → C × List ℕ → Type 0
  ConvertToken takes p t r q = CallsEachSymbol cause (ConvertStep takes) t p r q

  -- the symbols of a token of an entry; its end is not passed on
  abbrev pub ConvertInEntry : {C : Type 0} → (C → EntrySymbol → Result (List ℕ) E → C → Type 0) → C × List ℕ → Token → Result (Unit {0}) E → C × List ℕ → Type 0
  ConvertInEntry takes p t r q = CallsEachSymbol cause (λ p x a s. ConvertStep takes p (Of x) a s) t p r q

  -- a run from a converter and no octets, then the tail after all symbols, and the octets in total; or the first error
  pub record Converts {C O : Type 0} (tail : C → Result (List ℕ) E → C → Type 0) (octets : O → List ℕ) (run : C × List ℕ → Result (Unit {0}) E → C × List ℕ → Type 0)
      (convert : C) (r : Result O E) : Type 0 where
    pub answer : Result (Unit {0}) E
    pub state : C × List ℕ
    pub ran : run (convert, []) answer state
    pub gives : MatchResult answer
        (λ _. (last : Result (Unit {0}) E) × (q : C × List ℕ) × ConvertTail tail state last q × MatchResult last (λ _. IsOkAnd r (λ x. octets x ≡ q.1)) (λ e. r ≡ Err e))
        (λ e. r ≡ Err e)

  -- the run of a converter over one token, and its tail
  abbrev pub ConvertsOneToken : {C O : Type 0} → (C → Symbol → Result (List ℕ) E → C → Type 0) → (C → Result (List ℕ) E → C → Type 0) → (O → List ℕ) → C → Token → Result O E → Type 0
  ConvertsOneToken takes tail octets convert token r = Converts tail octets (λ p a q. ConvertToken takes p token a q) convert r

  -- a token's octets, at most 255, after their number; or the first error
  pub record StringStep (b : List ℕ) (t : Token) (r : Result (Unit {0}) E) (c : List ℕ) : Type 0 where
    pub answer : Result (Unit {0}) E
    pub built : List ℕ
    pub asks : CallsEachSymbol cause (HasStepOctets cause (within max_string room) step_octet) t [] answer built
    pub gives : MatchResult answer
        (λ _. ((r ≡ Ok tt) × (c ≡ b ++ wire_of built) × (length c ≤ room.capacity)) ⊎ (IsCause cause r short_buf × (room.fits < length b + length (wire_of built))))
        (λ e. (r ≡ Err e) × (c ≡ b))

  -- a token's text, if it is ASCII, is passed to a function, whose result is returned; else the error
  pub record AsciiText {V : Type 0} (returns : List ℕ → Result V E → Type 0) (t : Token) (r : Result V E) : Type 0 where
    pub answer : Result (Unit {0}) E
    pub built : List ℕ
    pub asks : CallsEachSymbol cause (HasStepOctets cause room step_text) t [] answer built
    pub gives : MatchResult answer
        (λ _. (IsAscii built × returns built r) ⊎ (IsNotAscii built × IsCause cause r (custom_text (codes "non-ASCII characters"))))
        (λ e. r ≡ Err e)

-- what was built of all tokens; or the first error
pub record BuildsEntry {S O E : Type 0} (next : S → Option Token → S → Type 0) (step : List ℕ → Token → Result (Unit {0}) E → List ℕ → Type 0) (octets : O → List ℕ)
    (old : S) (r : Result O E) (new : S) : Type 0 where
  pub answer : Result (Unit {0}) E
  pub built : List ℕ
  pub taken : ScansEntry next step old [] answer new built
  pub gives : MatchResult answer (λ _. IsOkAnd r (λ x. octets x ≡ built)) (λ e. r ≡ Err e)

-- a converter's run over all tokens
pub record ConvertsEntry {S C O E : Type 0} (next : S → Option Token → S → Type 0) (cause : E → Cause) (room : Room) (takes : C → EntrySymbol → Result (List ℕ) E → C → Type 0)
    (tail : C → Result (List ℕ) E → C → Type 0) (octets : O → List ℕ) (old : S) (convert : C) (r : Result O E) (new : S) : Type 0 where
  pub converts : Converts cause room tail octets (λ p a q. ScansEntry next (ConvertInEntry cause room takes) old p a new q) convert r

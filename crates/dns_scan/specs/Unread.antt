-- The tokens that remain in a scanner.
use Rattle.std.specs.Prelude.{ℕ, zero, suc, List, [], ◌∷◌, ◌≡◌, Option, Some, None, ⊤}
use Rattle.dns_scan.specs.Tokens.{Token, ConsumesNothing}

-- the first of a list, and the list after it is removed
abbrev pub first_of : List Token → Option Token
first_of [] = None
first_of (t ∷ ts) = Some t

abbrev pub others_of : List Token → List Token
others_of [] = []
others_of (t ∷ ts) = ts

module _ {S : Type 0} (next : S → Option Token → S → Type 0) where
  -- the next n calls that request a token consume those of the list in order, then none
  abbrev pub YieldsTokens : ℕ → S → List Token → Type 0
  YieldsTokens zero s ts = ⊤
  YieldsTokens (suc n) s ts = (o : Option Token) (u : S) → next s o u → (o ≡ first_of ts) × YieldsTokens n u (others_of ts)

  -- the tokens that remain in s
  pub record HasTokens (s : S) (ts : List Token) : Type 0 where
    pub calls : (n : ℕ) → YieldsTokens n s ts

  -- a call that requests a token consumes the first one, and the others remain
  pub consumes_first : (s : S) (ts : List Token) (o : Option Token) (u : S) → HasTokens s ts → next s o u → (o ≡ first_of ts) × HasTokens u (others_of ts)
  consumes_first s ts o u h k = ((h.calls 1 o u k).0, record { calls = λ n. (h.calls (suc n) o u k).1 })

  same_for : (n : ℕ) (s u : S) (ts : List Token) → ConsumesNothing next s u → YieldsTokens n s ts → YieldsTokens n u ts
  same_for zero s u ts h k = tt
  same_for (suc n) s u ts h k = λ o v q. k o v (h o v q)

  -- after a call that consumes none, the same tokens remain
  pub consumes_none : (s u : S) (ts : List Token) → HasTokens s ts → ConsumesNothing next s u → HasTokens u ts
  consumes_none s u ts h k = record { calls = λ n. same_for n s u ts k (h.calls n) }

  -- P holds of the tokens that remain in s
  abbrev pub OfTokens : S → (List Token → Type 0) → Type 0
  OfTokens s P = (tokens : List Token) → HasTokens s tokens → P tokens

  -- P holds of the first token that remains in s
  abbrev pub OfFirst : S → (Token → Type 0) → Type 0
  OfFirst s P = (token : Token) (others : List Token) → HasTokens s (token ∷ others) → P token

  -- if that token and others remain in old, the others remain in new
  abbrev pub ConsumesToken : Token → S → S → Type 0
  ConsumesToken token old new = (others : List Token) → HasTokens old (token ∷ others) → HasTokens new others

  -- if one token and others remain in old, that token is consumed as P states, and the others remain in new
  abbrev pub ConsumesOne : S → S → (Token → Type 0) → Type 0
  ConsumesOne old new P = (token : Token) (others : List Token) → HasTokens old (token ∷ others) → P token × HasTokens new others

  -- the same, where the token and the result are as P states
  abbrev pub ConsumesAs : {R : Type 0} → (Token → R → Type 0) → S → R → S → Type 0
  ConsumesAs P old r new = ConsumesOne old new (λ token. P token r)

-- The words that service parameters print as, parsed again.
use Rattle.std.specs.Prelude.{ℕ, ◌≡◌, ⊤, List, [], ◌∷◌}
use Rattle.std.specs.List.{AllByRecursion}
use Rattle.rdata_svcb.specs.Params.{params_of}
use Rattle.rdata_svcb.specs.ParamsFaults.{AreRightParams}
use Rattle.rdata_tokens.specs.Spelling.{AreOctetValues}
use Rattle.dns_lexer.specs.EntryTokens.{TokenSeen}
use Rattle.dns_lexer.specs.Token.{IsWord}
use Rattle.rdata_svcb.specs.ParamTokens.{IsSeparateWord, SpellsParams}
use Rattle.rdata_svcb.specs.ShownParams.{param_text}

-- each token is the word that a parameter prints as
abbrev pub AreShownParams : List (ℕ × List ℕ) → List TokenSeen → Type 0
AreShownParams [] [] = ⊤
AreShownParams [] (t ∷ ts) = ⊥
AreShownParams (p ∷ ps) [] = ⊥
AreShownParams (p ∷ ps) (t ∷ ts) = IsSeparateWord t × (t.text ≡ param_text p) × AreShownParams ps ts

-- the words that parameters print as spell these again
abbrev pub AreParamsReadBack : Type 0
AreParamsReadBack = (octets : List ℕ) (tokens : List TokenSeen) → AreOctetValues octets → AreRightParams octets → AreShownParams (params_of octets) tokens → SpellsParams tokens octets

-- each of them is a word
abbrev pub AreParamsWords : Type 0
AreParamsWords = (octets : List ℕ) → AreOctetValues octets → AreRightParams octets → AllByRecursion (λ p. IsWord (param_text p)) (params_of octets)

-- tokens spell one list of parameters
abbrev pub AreParamsOnce : Type 0
AreParamsOnce = (tokens : List TokenSeen) (a b : List ℕ) → SpellsParams tokens a → SpellsParams tokens b → a ≡ b

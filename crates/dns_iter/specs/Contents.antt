-- The contents of the tokens of an entry.
use Rattle.std.specs.Prelude.{ℕ, List, [], ◌∷◌, ◌≡◌, ◌⊎◌, Option, Some, MatchOption, slice_get}
use Rattle.std.specs.Borrow.{Bor}
use Rattle.std.specs.List.{AllZip, flat_map}
use Rattle.dns_symbol.specs.Symbol.{bytes}
use Rattle.dns_scan.specs.Join.{AreSymbols}
use Rattle.dns_scan.specs.Tokens.{Token}
use Rattle.dns_lexer.specs.Splitting.{Entries}
use Rattle.dns_lexer.specs.Token.{IsWord, IsQuote}

-- the content of a word is the word, that of a quoted string is between its double quotes
abbrev pub HasContent : Token → List ℕ → Type 0
HasContent token content = (IsWord token × (content ≡ token)) ⊎ ((q : IsQuote token) × (content ≡ flat_map bytes q.symbols))

-- the content of each token of an entry
abbrev pub HaveContents : List Token → List (List ℕ) → Type 0
HaveContents = AllZip HasContent

-- they have contents
abbrev pub HoldTexts : List Token → Type 0
HoldTexts tokens = (contents : List (List ℕ)) × HaveContents tokens contents

-- their contents are symbols throughout
abbrev pub HoldSymbols : List Token → Type 0
HoldSymbols tokens = (contents : List (List ℕ)) → HaveContents tokens contents → AreSymbols contents

-- the entry with that index, from 0, has tokens with these contents
abbrev pub HoldsAt : Entries → ℕ → List Token → Type 0
HoldsAt entries place contents = (tokens : List Token) × (slice_get entries place ≡ Some tokens) × HaveContents tokens contents

-- it has these contents and no others, and each is symbols throughout
pub record HoldsOnly (entries : Entries) (place : ℕ) (contents : List Token) : Type 0 where
  pub holds : HoldsAt entries place contents
  pub only : (other : List Token) → HoldsAt entries place other → other ≡ contents
  pub symbols : AreSymbols contents

-- a call at the texts of tokens returned the content of the first and kept the others, or there was none
abbrev pub content_next : {S : Type 0} → (S → List Token) → S → Option (Bor (List ℕ)) → S → Type 0
content_next texts s given t =
    MatchOption given (texts s ≡ [])
    (λ text. (token : Token) × (texts s ≡ token ∷ texts t) × ((content : List ℕ) → HasContent token content → text.now ≡ content))

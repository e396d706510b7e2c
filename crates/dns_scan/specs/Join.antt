-- The tokens of an entry: each in turn, and all as one text.
use Rattle.std.specs.Prelude.{ℕ, List, [], ◌∷◌, ◌++◌, ◌≡◌, ◌⊎◌, ◌↔◌, Bool, Option, Some, None, Result, Ok, IsErr, IsOk, IsOkAnd, IsTrue, map}
use Rattle.std.specs.List.{AllByRecursion, AllZip}
use Rattle.dns_octets.specs.Room.{Room}
use Rattle.dns_symbol.specs.Text.{SymbolsOf}
use Rattle.dns_symbol.specs.declared.symbol.Symbol.{Symbol}
use Rattle.dns_symbol.specs.declared.error.SymbolCharsError.{SymbolCharsError}
use Rattle.dns_symbol.specs.declared.symbol.EntrySymbol.{EntrySymbol}
use Rattle.dns_symbol.specs.declared.symbol.EntrySymbol.TheVariants.{EndOfToken, Symbol as Of}
use Rattle.dns_symbol.specs.Cause.{Cause}
use Rattle.dns_scan.specs.Entries.{Converts, ConvertInEntry}
use Rattle.dns_scan.specs.Unread.{HasTokens, OfTokens, first_of}
use Rattle.dns_scan.specs.Tokens.{Token, marker}

-- each token in order by a call, until one is rejected: then the tokens after that one remain, and else none
module _ {F E : Type 0} (call : F → Token → Result (Unit {0}) E → F → Type 0) where
  abbrev pub CallsTokens : List Token → F → Result (Unit {0}) E → List Token → F → Type 0
  CallsTokens [] f r rest g = (r ≡ Ok tt) × (rest ≡ []) × (g ≡ f)
  CallsTokens (t ∷ ts) f r rest g = ((h : F) × call f t (Ok tt) h × CallsTokens ts h r rest g) ⊎ (IsErr r × call f t r g × (rest ≡ ts))

-- what is passed on of a token of these symbols
abbrev pub handed_over : List Symbol → List EntrySymbol
handed_over symbols = map Of symbols ++ EndOfToken ∷ []

-- a token that is symbols throughout
abbrev pub IsSymbols : Token → Type 0
IsSymbols token = (symbols : List Symbol) × SymbolsOf token symbols None

-- tokens that all are
abbrev pub AreSymbols : List Token → Type 0
AreSymbols = AllByRecursion IsSymbols

-- the symbols of each token, which is nothing else
abbrev pub HaveSymbols : List Token → List (List Symbol) → Type 0
HaveSymbols = AllZip (λ token symbols. SymbolsOf token symbols None)

-- a token with a bad escape, after symbols
abbrev pub HasBadEscape : Token → Type 0
HasBadEscape token = (symbols : List Symbol) × (e : SymbolCharsError) × SymbolsOf token symbols (Some e)

-- the text is all tokens joined, up to and with the first that has a bad escape
abbrev pub IsJoin : List Token → List ℕ → Type 0
IsJoin [] text = text ≡ []
IsJoin (t ∷ ts) text = (IsSymbols t × ((more : List ℕ) × IsJoin ts more × (text ≡ t ++ more))) ⊎ (HasBadEscape t × (text ≡ t))

-- tokens have a join
abbrev pub HaveJoin : List Token → Type 0
HaveJoin tokens = (text : List ℕ) × IsJoin tokens text

-- the answer is whether the marker comes first
abbrev pub FindsMarker : {E : Type 0} → List Token → Result Bool E → Type 0
FindsMarker tokens r = IsOkAnd r (λ found. IsTrue found ↔ (first_of tokens ≡ Some marker))

-- the tokens that remain after a call over an entry: the last ones, and none without an error
abbrev pub LeavesOf : {S V E : Type 0} → (S → Option Token → S → Type 0) → List Token → Result V E → S → Type 0
LeavesOf next tokens r new = (front : List Token) × (rest : List Token) × (tokens ≡ front ++ rest) × (IsOk r → rest ≡ []) × HasTokens next new rest

-- a converter's run over all tokens, and the remaining tokens
abbrev pub ConvertsTokens : {C O E : Type 0} → (E → Cause) → Room → (C → EntrySymbol → Result (List ℕ) E → C → Type 0) → (C → Result (List ℕ) E → C → Type 0) → (O → List ℕ)
    → List Token → C → Result O E → List Token → Type 0
ConvertsTokens cause room takes tail octets tokens convert r rest =
    Converts cause room tail octets (λ p a q. CallsTokens (ConvertInEntry cause room takes) tokens p a rest q) convert r

-- the same, of the tokens that remained in the scanner
abbrev pub LeavesLast : {S V E : Type 0} → (S → Option Token → S → Type 0) → S → Result V E → S → Type 0
LeavesLast next old r new = OfTokens next old (λ tokens. LeavesOf next tokens r new)

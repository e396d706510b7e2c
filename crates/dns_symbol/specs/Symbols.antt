-- The symbols of a source of characters: an iterator over them is the source, or the error that ended it.
use Rattle.std.specs.Prelude.{◌≡◌, ℕ, ⊤, List, ◌++◌, Option, Some, None, Result, Ok, Err, IsErrAnd, encode_utf8_all}
use Rattle.std.specs.Iterator.{Count, at_most, Yields, Drains}
use Rattle.std.specs.Fn.{FnOnceReturnsAtMut, Once}
use denote.Ref.{MutBor}
use Rattle.dns_symbol.specs.Reading.{ReadsSymbol}
use Rattle.dns_symbol.specs.Text.{SymbolsOf}
use Rattle.dns_symbol.specs.declared.symbol.Symbol.{Symbol}
use Rattle.dns_symbol.specs.declared.error.SymbolCharsError.{SymbolCharsError}
use Rattle.dns_symbol.specs.declared.error.SymbolCharsError.TheVariants.{BadEscape, ShortInput}

-- the source may be called; after an error there is no source
abbrev pub CanYield : {S : Type 0} → (S → Type 0) → Result S SymbolCharsError → Type 0
CanYield can (Ok s) = can s
CanYield can (Err e) = ⊤

-- at most one symbol for each character, and none after an error
abbrev pub count_of : {S : Type 0} → (S → Count) → Result S SymbolCharsError → Count
count_of left (Ok s) = left s
count_of left (Err e) = at_most 0

-- the error that ended the symbols, if one did
abbrev pub error_of : {S : Type 0} → Result S SymbolCharsError → Option SymbolCharsError
error_of (Ok s) = None
error_of (Err e) = Some e

-- the error that ended the symbols so far, or Ok
abbrev pub answer_of : {S : Type 0} → Result S SymbolCharsError → Result (Unit {0}) SymbolCharsError
answer_of (Ok s) = Ok tt
answer_of (Err e) = Err e

-- a call returned what one parse from the source returns; an error ends the symbols for good
abbrev pub YieldsSymbol : {S : Type 0} → (S → Option ℕ → S → Type 0) → Result S SymbolCharsError → Option Symbol → Result S SymbolCharsError → Type 0
YieldsSymbol steps (Ok s) r (Ok t) = ReadsSymbol steps s (Ok r) t
YieldsSymbol steps (Ok s) None (Err e) = (t : _) × ReadsSymbol steps s (Err e) t
YieldsSymbol steps (Err e) None (Err f) = f ≡ e
YieldsSymbol steps (Ok s) (Some x) (Err e) = ⊥
YieldsSymbol steps (Err e) r (Ok t) = ⊥
YieldsSymbol steps (Err e) (Some x) (Err f) = ⊥

-- a clone of the source, or the same error
abbrev pub IsCloneOf : {S : Type 0} → (S → S → Type 0) → Result S SymbolCharsError → Result S SymbolCharsError → Type 0
IsCloneOf is_clone (Ok s) (Ok t) = is_clone s t
IsCloneOf is_clone (Err e) (Err f) = f ≡ e
IsCloneOf is_clone (Ok s) (Err f) = ⊥
IsCloneOf is_clone (Err e) (Ok t) = ⊥

-- the result if a closure returned r and the symbols ended in u: its error, else theirs, else its value
abbrev pub Answers : {S T E : Type 0} → (SymbolCharsError → E → Type 0) → Result T E → Result S SymbolCharsError → Result T E → Type 0
Answers from (Err e) u result = result ≡ Err e
Answers from (Ok v) (Err e) result = IsErrAnd result (from e)
Answers from (Ok v) (Ok t) result = result ≡ Ok v

-- a closure ran on the symbols of s, with that result
abbrev pub AnswersWith : {S F T E : Type 0} → Once F (MutBor (Result S SymbolCharsError) × Unit {0}) (Result T E × (MutBor (Result S SymbolCharsError) × Unit {0}))
    → (SymbolCharsError → E → Type 0) → F → S → Result T E → Type 0
AnswersWith {S} {F} {T} {E} g from op s result = (r : Result T E) × (u : Result S SymbolCharsError) × FnOnceReturnsAtMut g op (Ok s) r u × Answers from r u result

module _ {S : Type 0} (steps : S → Option ℕ → S → Type 0) where
  -- the characters of a source have these symbols and this error: all of its characters, or, at a bad escape, a prefix of them, whatever follows
  abbrev pub HasSymbols : S → List Symbol → Option SymbolCharsError → Type 0
  HasSymbols s symbols None = (cs : List ℕ) × Drains steps s cs × SymbolsOf (encode_utf8_all cs) symbols None
  HasSymbols s symbols (Some ShortInput) = (cs : List ℕ) × Drains steps s cs × SymbolsOf (encode_utf8_all cs) symbols (Some ShortInput)
  HasSymbols s symbols (Some BadEscape) = (cs : List ℕ) × (t : S) × Yields steps s cs t × ((more : List ℕ) → SymbolsOf (encode_utf8_all (cs ++ more)) symbols (Some BadEscape))

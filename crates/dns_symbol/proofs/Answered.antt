-- The result of a closure over symbols, by cases.
use Rattle.std.proofs.Common.{◌≡◌, sym, Result, Ok, Err, subst}
use Rattle.std.specs.Prelude.{IsErrAnd}
use Rattle.dns_symbol.specs.Symbols.{Answers, answer_of}
use Rattle.dns_symbol.specs.declared.error.SymbolCharsError.{SymbolCharsError}

module _ {S T E : Type 0} (from : SymbolCharsError → E → Type 0) where
  -- the closure's error
  pub answers_refusal : (r result : Result T E) (u : Result S SymbolCharsError) (e : E) → r ≡ Err e → result ≡ Err e → Answers from r u result
  answers_refusal (Ok v) result u e is h = absurd cc
  answers_refusal (Err d) result u e is h = cc

  -- the error that ended the symbols
  pub answers_error : (r result : Result T E) (u : Result S SymbolCharsError) (v : T) (e : SymbolCharsError) → r ≡ Ok v → Err e ≡ answer_of u → IsErrAnd result (from e)
      → Answers from r u result
  answers_error (Err d) result u v e is ended h = absurd cc
  answers_error (Ok w) result (Ok t) v e is ended h = absurd cc
  answers_error (Ok w) result (Err f) v e is ended h = let same : e ≡ f = cc in subst (λ d. IsErrAnd result (from d)) same h

  -- the closure's value
  pub answers_value : (r : Result T E) (u : Result S SymbolCharsError) (v : T) → r ≡ Ok v → Ok tt ≡ answer_of u → Answers from r u (Ok v)
  answers_value (Err d) u v is ended = absurd cc
  answers_value (Ok w) (Err f) v is ended = absurd cc
  answers_value (Ok w) (Ok t) v is ended = sym is

-- A token that is a backslash alone, and calls that reject it.
use Rattle.std.proofs.Common.{ℕ, ◌≡◌, List, [], ◌∷◌, Some, Result, Err, refl, inr, arith, codes}
use Rattle.dns_symbol.specs.declared.symbol.Symbol.{Symbol}
use Rattle.dns_symbol.specs.declared.error.SymbolCharsError.TheVariants.{ShortInput}
use Rattle.dns_symbol.specs.Text.{SymbolsOf}
use Rattle.dns_symbol.proofs.Escapes.{escape_short}
use Rattle.dns_scan.specs.Asks.{CallsEachSymbol, Builds}
use Rattle.dns_symbol.specs.Cause.{Cause, custom_text}
use Rattle.dns_scan.specs.Entries.{ScansEntry}
use Rattle.dns_scan.specs.Tokens.{Token}

-- the token
abbrev pub cut_token : Token
cut_token = codes "\\"

cut_read : SymbolsOf cut_token [] (Some ShortInput)
cut_read = record {
  rest = cut_token;
  readable = refl;
  spelled = refl;
  ends = (omega arith, (escape_short cut_token refl (omega arith) (omega arith) (λ h. absurd (omega (arith, h))) (λ h. absurd (omega (arith, h)))).0, refl);
}

module _ {E : Type 0} (cause : E → Cause) (e : E) (is : cause e ≡ custom_text (codes "unexpected end of input")) where
  -- no symbol is passed on
  pub cut_asks : {F : Type 0} (step : F → Symbol → Result (Unit {0}) E → F → Type 0) (f : F) → CallsEachSymbol cause step cut_token f (Err e) f
  cut_asks step f = record { symbols = []; error = Some ShortInput; read = cut_read; asked = (refl, is) }

  pub cut_builds : {O : Type 0} (step : List ℕ → Symbol → Result (Unit {0}) E → List ℕ → Type 0) (octets : O → List ℕ) → Builds cause step octets cut_token (Err e)
  cut_builds step octets = record { answer = Err e; built = []; asks = cut_asks step []; gives = refl }

-- an entry's first token is rejected, if one always comes next
pub cut_entry : {S F E : Type 0} (call : F → Token → Result (Unit {0}) E → F → Type 0) (old new : S) (f : F) (e : E) → call f cut_token (Err e) f
    → ScansEntry (λ _ o _. o ≡ Some cut_token) call old f (Err e) new f
cut_entry call old new f e h = record { tokens = cut_token ∷ []; taken = (new, refl, inr (refl, h, refl)) }

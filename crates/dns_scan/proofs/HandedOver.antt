-- The symbols of all tokens, and their ends, as one list.
use Rattle.std.proofs.Common.{◌≡◌, List, [], ◌∷◌, ◌++◌, map, refl, sym, subst, append_assoc, inl, inr, ⊎_elim, Option, None, Result, Ok}
use Rattle.std.specs.Prelude.{IsErr}
use Rattle.std.specs.List.{flat_map, AllZip}
use Rattle.dns_symbol.specs.declared.symbol.Symbol.{Symbol}
use Rattle.dns_symbol.specs.declared.symbol.EntrySymbol.{EntrySymbol}
use Rattle.dns_symbol.specs.declared.symbol.EntrySymbol.TheVariants.{EndOfToken, Symbol as Of}
use Rattle.dns_symbol.specs.Text.{SymbolsOf}
use Rattle.dns_symbol.proofs.Unique.{symbols_same}
use Rattle.dns_scan.specs.Asks.{CallsEachSymbol, CallsEach, EndsAfterSymbols}
use Rattle.dns_symbol.specs.Cause.{Cause}
use Rattle.dns_scan.specs.Entries.{AsksToken, ScansEntry}
use Rattle.dns_scan.specs.Join.{CallsTokens, handed_over}
use Rattle.dns_scan.specs.Unread.{HasTokens}
use Rattle.dns_scan.specs.Tokens.{Token}
use Rattle.dns_scan.proofs.InTurn.{in_turn}
use Rattle.dns_scan.proofs.Whole.{not_err}

module _ {F E : Type 0} (cause : E → Cause) (step : F → EntrySymbol → Result (Unit {0}) E → F → Type 0) where
  abbrev Well : Result (Unit {0}) E → Type 0
  Well r = r ≡ Ok tt

  -- calls for a token's symbols, and then for others
  calls_on : (xs : List Symbol) (ys : List EntrySymbol) (f h : F) (r : Result (Unit {0}) E) (g : F) → CallsEach (λ p x q s. step p (Of x) q s) xs (EndsAfterSymbols cause None) f (Ok tt) h
      → CallsEach step ys Well h r g → CallsEach step (map Of xs ++ ys) Well f r g
  calls_on [] ys f h r g a b = subst (λ p. CallsEach step ys Well p r g) a.0 b
  calls_on (x ∷ xs) ys f h r g a b = ⊎_elim (λ k. inl (k.0, k.1, calls_on xs ys k.0 h r g k.2 b)) (λ k. absurd (not_err {E = E} (Ok tt) refl k.0)) a

  calls_stop : (xs : List Symbol) (ys : List EntrySymbol) (f : F) (r : Result (Unit {0}) E) (g : F) → IsErr r → CallsEach (λ p x q s. step p (Of x) q s) xs (EndsAfterSymbols cause None) f r g
      → CallsEach step (map Of xs ++ ys) Well f r g
  calls_stop [] ys f r g is a = absurd (not_err r a.1 is)
  calls_stop (x ∷ xs) ys f r g is a = ⊎_elim (λ k. inl (k.0, k.1, calls_stop xs ys k.0 r g is k.2)) (λ k. inr k) a

  calls_of : (t : Token) (xs : List Symbol) (f : F) (r : Result (Unit {0}) E) (g : F) → SymbolsOf t xs None → CallsEachSymbol cause (λ p x q s. step p (Of x) q s) t f r g
      → CallsEach (λ p x q s. step p (Of x) q s) xs (EndsAfterSymbols cause None) f r g
  calls_of t xs f r g read a =
      let same = symbols_same t a.symbols xs a.error None a.read read in
      subst (λ ss. CallsEach (λ p x q s. step p (Of x) q s) ss (EndsAfterSymbols cause None) f r g) same.0
      (subst (λ e. CallsEach (λ p x q s. step p (Of x) q s) a.symbols (EndsAfterSymbols cause e) f r g) same.1 a.asked)

  calls_all : (tokens : List Token) (lists : List (List Symbol)) (f : F) (r : Result (Unit {0}) E) (rest : List Token) (g : F) → AllZip (λ t xs. SymbolsOf t xs None) tokens lists
      → CallsTokens (AsksToken cause step) tokens f r rest g → CallsEach step (flat_map handed_over lists) Well f r g
  calls_all [] [] f r rest g z h = (h.2, h.0)
  calls_all [] (xs ∷ lists) f r rest g z h = absurd z
  calls_all (t ∷ ts) [] f r rest g z h = absurd z
  calls_all (t ∷ ts) (xs ∷ lists) f r rest g z h =
      subst (λ l. CallsEach step l Well f r g) (sym (append_assoc (map Of xs) (EndOfToken ∷ []) (flat_map handed_over lists)))
      (⊎_elim
      (λ k. ⊎_elim
      (λ a. calls_on xs (EndOfToken ∷ flat_map handed_over lists) f a.0 r g (calls_of t xs f (Ok tt) a.0 z.0 a.1) (inl (k.0, a.2, calls_all ts lists k.0 r rest g z.1 k.2)))
      (λ a. absurd (not_err {E = E} (Ok tt) refl a.0))
      k.1)
      (λ k. ⊎_elim
      (λ a. calls_on xs (EndOfToken ∷ flat_map handed_over lists) f a.0 r g (calls_of t xs f (Ok tt) a.0 z.0 a.1) (inr (k.0, a.2)))
      (λ a. calls_stop xs (EndOfToken ∷ flat_map handed_over lists) f r g a.0 (calls_of t xs f r g z.0 a.1))
      k.1)
      h)

  pub handed_whole : {S : Type 0} (next : S → Option Token → S → Type 0) (old : S) (f : F) (r : Result (Unit {0}) E) (new : S) (g : F) → ScansEntry next (AsksToken cause step) old f r new g
      → (tokens : List Token) (lists : List (List Symbol)) → HasTokens next old tokens → AllZip (λ t xs. SymbolsOf t xs None) tokens lists → CallsEach step (flat_map handed_over lists) Well f r g
  handed_whole next old f r new g h tokens lists stands read =
      let turn = in_turn next (AsksToken cause step) old f r new g h tokens stands in
      calls_all tokens lists f r turn.0 g read turn.1

-- Parsing a token as a number has at most one result.
use Rattle.std.proofs.Common.{ℕ, ◌≡◌, List, [], ◌∷◌, ◌++◌, length, length-append, refl, sym, ap, subst, ◌∙◌, arith, append-nil, ⊎_elim, Option, Some, Result, Ok, Err}
use Rattle.dns_symbol.specs.declared.symbol.Symbol.{Symbol}
use Rattle.dns_symbol.specs.declared.error.SymbolCharsError.{SymbolCharsError}
use Rattle.dns_symbol.specs.Symbol.{chars_error_text}
use Rattle.dns_symbol.specs.Text.{SymbolsOf}
use Rattle.dns_symbol.proofs.Unique.{symbols_same}
use Rattle.dns_symbol.specs.Cause.{Cause, custom_text}
use Rattle.dns_scan.specs.Numbers.{IsNumber, NoNumber, ReadsNumber, refusal_at, by_cause}
use Rattle.dns_scan.specs.Reads.{NumberReads}
use Rattle.dns_scan.specs.Tokens.{Token}
use Rattle.dns_scan.proofs.Numbers.{one_value}

module _ (limit : ℕ) where
  -- what is read of the token's symbols
  pub reads_of : (t : Token) (r : Result ℕ Cause) → NumberReads limit t r → (symbols : List Symbol) (error : Option SymbolCharsError) → SymbolsOf t symbols error → ReadsNumber limit symbols error r
  reads_of t r h symbols error read =
      let same = symbols_same t h.symbols symbols h.error error h.read read in
      subst (λ e. ReadsNumber limit symbols e r) same.1 (subst (λ ss. ReadsNumber limit ss h.error r) same.0 (plain r h.reads))
    where
      plain : (r : Result ℕ Cause) → ReadsNumber limit h.symbols h.error (by_cause (λ why. why) r) → ReadsNumber limit h.symbols h.error r
      plain (Ok v) k = k
      plain (Err why) k = k

  not_both : (symbols : List Symbol) (v : ℕ) (why : Cause) → IsNumber limit symbols v → NoNumber limit symbols why → ⊥
  not_both symbols v why is stop =
      let long = stop.longest symbols [] v (sym (append-nil symbols)) is in
      let count = ap length stop.whole ∙ length-append stop.front (stop.next ∷ stop.rest) in
      absurd (omega (arith, long, count))

  -- lists cut at the same index
  same_cut : (front back rest others : List Symbol) (x y : Symbol) → front ++ x ∷ rest ≡ back ++ y ∷ others → length front ≡ length back → (front ≡ back) × (x ≡ y)
  same_cut [] [] rest others x y e n = (refl, cc)
  same_cut [] (b ∷ bs) rest others x y e n = absurd (omega (arith, n))
  same_cut (a ∷ cs) [] rest others x y e n = absurd (omega (arith, n))
  same_cut (a ∷ cs) (b ∷ bs) rest others x y e n =
      let first : a ≡ b = cc in
      let tails : cs ++ x ∷ rest ≡ bs ++ y ∷ others = cc in
      let more = same_cut cs bs rest others x y tails (omega (arith, n)) in
      ((λ i. first i ∷ more.0 i), more.1)

  one_refusal : (symbols : List Symbol) (a b : Cause) → NoNumber limit symbols a → NoNumber limit symbols b → a ≡ b
  one_refusal symbols a b p q =
      let below = p.longest q.front (q.next ∷ q.rest) q.value q.whole q.number in
      let above = q.longest p.front (p.next ∷ p.rest) p.value p.whole p.number in
      let cut = same_cut p.front q.front p.rest q.rest p.next q.next (sym p.whole ∙ q.whole) (omega (arith, below, above)) in
      let value : p.value ≡ q.value = one_value limit q.front p.value q.value (subst (λ l. IsNumber limit l p.value) cut.0 p.number) q.number in
      p.refusal ∙ (λ i. refusal_at limit (value i) (cut.1 i)) ∙ sym q.refusal

  reads_once : (symbols : List Symbol) (error : Option SymbolCharsError) (q r : Result ℕ Cause) → ReadsNumber limit symbols error q → ReadsNumber limit symbols error r → q ≡ r
  reads_once symbols error (Ok v) (Ok w) h k = ap (λ n. Ok n) (one_value limit symbols v w h.0 k.0)
  reads_once symbols error (Ok v) (Err why) h k = ⊎_elim (λ p. absurd (not_both symbols v why h.0 p)) (λ e. let z = h.1 in let y = e.3 in cc) k
  reads_once symbols error (Err why) (Ok w) h k = ⊎_elim (λ p. absurd (not_both symbols w why k.0 p)) (λ e. let z = k.1 in let y = e.3 in cc) h
  reads_once symbols error (Err a) (Err b) h k =
      ap (λ w. Err w)
      (⊎_elim
      (λ p. ⊎_elim (λ q. one_refusal symbols a b p q) (λ q. absurd (not_both symbols q.0 a q.2 p)) k)
      (λ p. ⊎_elim (λ q. absurd (not_both symbols p.0 b p.2 q)) (λ q. same p.1 q.1 p.3 q.3 p.4 q.4) k)
      h)
    where
      same : (x y : SymbolCharsError) → error ≡ Some x → error ≡ Some y → a ≡ custom_text (chars_error_text x) → b ≡ custom_text (chars_error_text y) → a ≡ b
      same x y e f g h = let is : x ≡ y = cc in g ∙ ap (λ z. custom_text (chars_error_text z)) is ∙ sym h

  pub numbers_once : (t : Token) (q r : Result ℕ Cause) → NumberReads limit t q → NumberReads limit t r → q ≡ r
  numbers_once t q r h k = reads_once h.symbols h.error q r (reads_of t q h h.symbols h.error h.read) (reads_of t r k h.symbols h.error h.read)

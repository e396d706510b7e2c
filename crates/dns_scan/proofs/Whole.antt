-- The octets of a whole token.
use Rattle.std.proofs.Common.{ℕ, ◌≡◌, ◌<◌, ◌≤◌, ◌+◌, ◌-◌, List, [], ◌∷◌, ◌++◌}
use Rattle.std.proofs.Common.{length, map, refl, sym, ap, subst, ◌∙◌, arith, append_assoc, append-nil, length-append, ◌⊎◌, inl, inr, ⊎_elim, Option, Some, None, Result, Ok, Err, Bool}
use Rattle.std.specs.Prelude.{IsOkAnd, IfOk, IsErr, MatchOption, MatchResult, All, encode_utf8_all}
use Rattle.dns_octets.specs.Room.{Room}
use Rattle.dns_symbol.specs.declared.symbol.Symbol.{Symbol}
use Rattle.dns_symbol.specs.declared.error.SymbolCharsError.{SymbolCharsError}
use Rattle.dns_symbol.specs.declared.error.BadSymbol.{BadSymbol}
use Rattle.dns_symbol.specs.Symbol.{octet_of}
use Rattle.dns_symbol.specs.Text.{SymbolsOf}
use Rattle.dns_symbol.specs.Printed.{symbol_of, text_of}
use Rattle.dns_symbol.proofs.Unique.{symbols_same}
use Rattle.dns_symbol.proofs.PrintedForms.{IsForm, printed_symbols, printed_octets}
use Rattle.dns_symbol.specs.Cause.{Cause, short_buf, end_of_entry, IsCause}
use Rattle.dns_scan.specs.Tokens.{Token, ScansToken}
use Rattle.dns_scan.specs.Asks.{Builds, CallsEach, EndsAfterSymbols}
use Rattle.dns_scan.specs.Steps.{HasStepOctets, AppendsSymbol, step_octet, bad_or}
use Rattle.dns_charstr.specs.Reading.{HasOctets}
use Rattle.dns_scan.specs.Octets.{ReturnsWhere}
use Rattle.dns_scan.specs.Unread.{HasTokens, consumes_first}

pub not_err : {E : Type 0} (u : Result (Unit {0}) E) → u ≡ Ok tt → IsErr u → ⊥
not_err (Ok v) e h = cc
not_err (Err x) e h = cc

module _ {E : Type 0} (cause : E → Cause) (room : Room) where
  -- octets of symbols that all have one: all were appended, or some didn't fit
  run_whole : (symbols : List Symbol) (os : List ℕ) (b c : List ℕ) (u : Result (Unit {0}) E) → map octet_of symbols ≡ map Ok os
      → CallsEach (HasStepOctets cause room step_octet) symbols (EndsAfterSymbols cause None) b u c
      → ((u ≡ Ok tt) × (c ≡ b ++ os)) ⊎ (IsCause cause u short_buf × (room.fits < length b + length os))
  run_whole [] [] b c u is h = inl (h.1, h.0 ∙ sym (append-nil b))
  run_whole [] (o ∷ os) b c u is h = cc
  run_whole (x ∷ xs) [] b c u is h = cc
  run_whole (x ∷ xs) (o ∷ os) b c u is h =
      let first : octet_of x ≡ Ok o = cc in
      let others : map octet_of xs ≡ map Ok os = cc in
      ⊎_elim
      (λ k. ⊎_elim
      (λ a. ⊎_elim
      (λ d. inl (d.0, d.1 ∙ ap (λ l. l ++ os) a.1 ∙ append_assoc b (o ∷ []) os))
      (λ d. inr (d.0, omega (arith, d.1, ap length a.1 ∙ length-append b (o ∷ []))))
      (run_whole xs os k.0 c u others k.2))
      (λ a. absurd a.0)
      (appended o b k.0 (Ok tt) (subst (λ q. AppendsSymbol cause room (bad_or (λ n. n ∷ []) q) b (Ok tt) k.0) first k.1)))
      (λ k. ⊎_elim
      (λ a. absurd (not_err u a.0 k.0))
      (λ a. inr (a.0, omega (arith, a.2)))
      (appended o b c u (subst (λ q. AppendsSymbol cause room (bad_or (λ n. n ∷ []) q) b u c) first k.1)))
      h
    where
      appended : (o : ℕ) (b c : List ℕ) (r : Result (Unit {0}) E) → AppendsSymbol cause room (Ok (o ∷ [])) b r c
          → ((r ≡ Ok tt) × (c ≡ b ++ o ∷ []) × (0 < 1 → length c ≤ room.capacity)) ⊎ (IsCause cause r short_buf × (c ≡ b) × (room.fits - length b < 1))
      appended o b c r a = a

  -- octets of a whole run, and their count
  run_ok : (symbols : List Symbol) (e : Option SymbolCharsError) (b c : List ℕ) → length b ≤ room.capacity → CallsEach (HasStepOctets cause room step_octet) symbols (EndsAfterSymbols cause e) b (Ok tt) c
      → (os : List ℕ) × (map octet_of symbols ≡ map Ok os) × (c ≡ b ++ os) × (e ≡ None) × (length c ≤ room.capacity)
  run_ok [] None b c small h = ([], refl, h.0 ∙ sym (append-nil b), refl, omega (arith, ap length h.0))
  run_ok [] (Some e) b c small h = absurd h.1
  run_ok (x ∷ xs) e b c small h =
      ⊎_elim
      (λ k.
      let one = given b k.0 (octet_of x) k.1 in
      let more = run_ok xs e k.0 c one.3 k.2 in
      (one.0 ∷ more.0, (λ i. one.1 i ∷ more.1 i), more.2 ∙ ap (λ l. l ++ more.0) one.2 ∙ append_assoc b (one.0 ∷ []) more.0, more.3, more.4))
      (λ k. absurd (not_err {E = E} (Ok tt) (λ i. Ok tt) k.0))
      h
    where
      given : (b c : List ℕ) (q : Result ℕ BadSymbol) → AppendsSymbol cause room (bad_or (λ n. n ∷ []) q) b (Ok tt) c → (o : ℕ) × (q ≡ Ok o) × (c ≡ b ++ o ∷ []) × (length c ≤ room.capacity)
      given b c (Ok o) h = ⊎_elim (λ a. (o, refl, a.1, a.2 (omega arith))) (λ a. absurd a.0) h
      given b c (Err e) h = absurd h.0

  module _ {O : Type 0} (octets : O → List ℕ) (t : Token) where
    pub builds_whole : (r : Result O E) → Builds cause (HasStepOctets cause room step_octet) octets t r → (symbols : List Symbol) (os : List ℕ) → SymbolsOf t symbols None
        → map octet_of symbols ≡ map Ok os → ReturnsWhere cause octets room os r
    builds_whole r h symbols os read is =
        let same = symbols_same t h.asks.symbols symbols h.asks.error None h.asks.read read in
        let ran : CallsEach (HasStepOctets cause room step_octet) symbols (EndsAfterSymbols cause None) [] h.answer h.built =
        subst (λ ss. CallsEach (HasStepOctets cause room step_octet) ss (EndsAfterSymbols cause None) [] h.answer h.built) same.0
        (subst (λ e. CallsEach (HasStepOctets cause room step_octet) h.asks.symbols (EndsAfterSymbols cause e) [] h.answer h.built) same.1 h.asks.asked) in
        by h.answer h.gives (run_whole symbols os _ h.built h.answer is ran)
      where
        by : (u : Result (Unit {0}) E) → MatchResult u (λ _. IsOkAnd r (λ x. octets x ≡ h.built)) (λ e. r ≡ Err e)
            → ((u ≡ Ok tt) × (h.built ≡ os)) ⊎ (IsCause cause u short_buf × (room.fits < 0 + length os)) → ReturnsWhere cause octets room os r
        by (Ok v) g (inl k) = inl (rw k.1 at g)
        by (Ok v) g (inr k) = absurd k.0
        by (Err e) g (inl k) = let z = k.0 in cc
        by (Err e) g (inr k) = inr (rw g k.0, omega (arith, k.1))

    pub builds_only : (r : Result O E) → Builds cause (HasStepOctets cause room step_octet) octets t r → (symbols : List Symbol) (error : Option SymbolCharsError) → SymbolsOf t symbols error
        → IfOk r (λ x. (error ≡ None) × (map octet_of symbols ≡ map Ok (octets x)) × (length (octets x) ≤ room.capacity))
    builds_only (Err e) h symbols error read = tt
    builds_only (Ok x) h symbols error read =
        let same = symbols_same t h.asks.symbols symbols h.asks.error error h.asks.read read in
        let ran : CallsEach (HasStepOctets cause room step_octet) symbols (EndsAfterSymbols cause error) [] h.answer h.built =
        subst (λ ss. CallsEach (HasStepOctets cause room step_octet) ss (EndsAfterSymbols cause error) [] h.answer h.built) same.0
        (subst (λ e. CallsEach (HasStepOctets cause room step_octet) h.asks.symbols (EndsAfterSymbols cause e) [] h.answer h.built) same.1 h.asks.asked) in
        by h.answer (Ok x) refl h.gives ran
      where
        by : (u : Result (Unit {0}) E) (r : Result O E) → r ≡ Ok x → MatchResult u (λ _. IsOkAnd r (λ y. octets y ≡ h.built)) (λ e. r ≡ Err e)
            → CallsEach (HasStepOctets cause room step_octet) symbols (EndsAfterSymbols cause error) [] u h.built
            → (error ≡ None) × (map octet_of symbols ≡ map Ok (octets x)) × (length (octets x) ≤ room.capacity)
        by (Ok v) (Ok y) is g k =
            let ran = run_ok symbols error [] h.built (omega arith) k in
            let same : y ≡ x = cc in
            let built : octets x ≡ h.built = ap octets (sym same) ∙ g in
            (ran.3, ran.1 ∙ ap (map Ok) (sym ran.2 ∙ sym built), omega (arith, ran.4, ap length built))
        by (Ok v) (Err y) is g k = cc
        by (Err e) r is g k = cc

-- the result of a token call for the next token of the scanner
pub of_first : {S V E : Type 0} (next : S → Option Token → S → Type 0) (cause : E → Cause) (answers : Token → Result V E → Type 0)
    (old : S) (r : Result V E) (new : S) (t : Token) (ts : List Token) → HasTokens next old (t ∷ ts) → ScansToken next cause answers old r new → answers t r × HasTokens next new ts
of_first next cause answers old r new t ts stands scans =
    let took = consumes_first next old (t ∷ ts) scans.token new stands scans.taken in
    let answered : answers t r = subst (λ o. MatchOption o (IsCause cause r end_of_entry) (λ t. answers t r)) took.0 scans.answer in
    (answered, took.1)

-- a call for the octets of one token, the next of the scanner
module _ {S O E : Type 0} (next : S → Option Token → S → Type 0) (cause : E → Cause) (room : Room) (octets : O → List ℕ)
    (old : S) (r : Result O E) (new : S) (scans : ScansToken next cause (Builds cause (HasStepOctets cause room step_octet) octets) old r new) where
  pub scans_whole : (t : Token) (ts : List Token) (os : List ℕ) → HasTokens next old (t ∷ ts) → HasOctets t os → ReturnsWhere cause octets room os r
  scans_whole t ts os stands has = builds_whole cause room octets t r (of_first next cause _ old r new t ts stands scans).0 has.symbols os has.read has.octets_are

  pub scans_printed : (f : ℕ → Bool) → IsForm f → (os : List ℕ) (ts : List Token) → All (λ o. o < 256) os → HasTokens next old (encode_utf8_all (text_of f os) ∷ ts)
      → ReturnsWhere cause octets room os r
  scans_printed f form os ts bytes stands =
      scans_whole (encode_utf8_all (text_of f os)) ts os stands (record { symbols = map (symbol_of f) os; read = printed_symbols f form os bytes; octets_are = printed_octets f os })

  pub scans_only : (t : Token) (ts : List Token) (symbols : List Symbol) (error : Option SymbolCharsError) → HasTokens next old (t ∷ ts) → SymbolsOf t symbols error
      → IfOk r (λ x. (error ≡ None) × (map octet_of symbols ≡ map Ok (octets x)) × (length (octets x) ≤ room.capacity))
  scans_only t ts symbols error stands read = builds_only cause room octets t r (of_first next cause _ old r new t ts stands scans).0 symbols error read

  pub scans_rest : (t : Token) (ts : List Token) → HasTokens next old (t ∷ ts) → HasTokens next new ts
  scans_rest t ts stands = (of_first next cause _ old r new t ts stands scans).1

-- the symbols are equal in number to the octets
pub same_count : (symbols : List Symbol) (os : List ℕ) → map octet_of symbols ≡ map Ok os → length symbols ≡ length os
same_count [] [] e = refl
same_count [] (o ∷ os) e = cc
same_count (x ∷ xs) [] e = cc
same_count (x ∷ xs) (o ∷ os) e = let others : map octet_of xs ≡ map Ok os = cc in omega (arith, same_count xs os others)
